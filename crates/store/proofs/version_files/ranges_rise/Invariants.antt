use Rattle.std.proofs.Common.{Bor, ◌≡◌, ℕ, ◌+◌, ◌<◌, true}
use Rattle.std.specs.Prelude.{slice_index_or}
use Rattle.std.specs.Ordering.{is_lt}
use Rattle.folder.specs.Order.{internal_cmp}
use Rattle.folder.specs.meta.FileMeta.{FileMeta}
use Rattle.store.proofs.version_files.ranges_rise.Given as goal

-- each file so far ends before the one after it begins
abbrev pub invariant-loop-place : goal.invariant-loop-place
invariant-loop-place g l =
    (k : ℕ) (d : Bor FileMeta) → k + 1 < l.place → is_lt (internal_cmp g.C.Comparator.cmp (slice_index_or l.files k d).now.largest (slice_index_or l.files (k + 1) d).now.smallest) ≡ true
