use Rattle.std.proofs.Common.{◌≡◌, ◌++◌, true, map, drop}
use Rattle.std.specs.List.{list_all}
use Rattle.c_api.specs.Files.{has_keys, meta_at}
use Rattle.c_api.proofs.picked.metas_at.Given as goal

abbrev pub invariant-loop-file : goal.invariant-loop-file
invariant-loop-file l =
    record {
      lent : list_all (has_keys l.keys) (drop l.file-index l.files) ≡ true;
      all : l.metas.items ++ map (meta_at l.keys) (drop l.file-index l.files) ≡ map (meta_at l.keys) l.files;
    }
