use Rattle.std.proofs.Common.{◌≡◌, ◌++◌, true, drop}
use Rattle.std.specs.List.{list_all}
use Rattle.c_api.specs.Files.{has_keys}
use Rattle.c_api.specs.Requests.{metas_of}
use Rattle.c_api.proofs.picked.metas_of.Given as goal

abbrev pub invariant-loop-file : goal.invariant-loop-file
invariant-loop-file l =
    record {
      lent : list_all (has_keys l.keys) (drop l.file-index l.files) ≡ true;
      all : l.metas.items ++ metas_of l.keys l.level (drop l.file-index l.files) ≡ metas_of l.keys l.level l.files;
    }
