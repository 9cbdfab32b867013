use Rattle.std.proofs.Common.{◌≡◌, ◌++◌, true, map, drop}
use Rattle.c_api.specs.Closed.{are_files, new_file}
use Rattle.c_api.proofs.closed_calls.new_files.Given as goal

abbrev pub invariant-loop-file : goal.invariant-loop-file
invariant-loop-file l =
    record {
      lent : are_files l.keys (drop l.file-index l.files) ≡ true;
      all : l.added.items ++ map (new_file l.keys) (drop l.file-index l.files) ≡ map (new_file l.keys) l.files;
    }
