use Rattle.std.proofs.Common.{◌≡◌, ◌++◌, true, drop}
use Rattle.std.specs.List.{filter, list_all}
use Rattle.c_api.specs.Files.{has_keys}
use Rattle.c_api.specs.Held.{overlaps_at}
use Rattle.c_api.proofs.picked.overlapping.Given as goal

abbrev pub invariant-loop-file : goal.invariant-loop-file
invariant-loop-file g l =
    record {
      lent : list_all (has_keys l.keys) (drop l.file-index l.files) ≡ true;
      all : l.found.items ++ filter (overlaps_at g.C.Comparator.cmp l.keys l.all) (drop l.file-index l.files) ≡ filter (overlaps_at g.C.Comparator.cmp l.keys l.all) l.files;
    }
