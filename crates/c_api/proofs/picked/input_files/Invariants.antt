use Rattle.std.proofs.Common.{◌≡◌, ◌++◌, true, map, drop}
use Rattle.std.specs.List.{list_all}
use Rattle.c_api.specs.Files.{has_keys}
use Rattle.c_api.specs.Requests.{input_file}
use Rattle.c_api.proofs.picked.input_files.Given as goal

abbrev pub invariant-loop-file : goal.invariant-loop-file
invariant-loop-file l =
    record {
      lent : list_all (has_keys l.keys) (drop l.file-index l.files) ≡ true;
      all : l.inputs.items ++ map (input_file l.keys) (drop l.file-index l.files) ≡ map (input_file l.keys) l.files;
    }
