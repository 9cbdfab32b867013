-- The run of a range of user keys, and how the runs of a split's ranges compose.
use Rattle.std.specs.Prelude.{◌≡◌, ◌↔◌, ℕ, ◌+◌, ◌≤◌, nat_eq, Bool, true, not, ◌&&◌, if◌then◌else◌}
use Rattle.std.specs.Prelude.{List, [], ◌∷◌, ◌++◌, length, map, flat_map, slice_get, Option, Some}
use Rattle.std.specs.Prelude.{None, Result, Ok, Err}
use Rattle.std.specs.List.{list_any, list_all}
use Rattle.coding.specs.Answers.{fault}
use Rattle.coding.specs.declared.fault.Fault.{Fault}
use Rattle.coding.specs.declared.fault.FaultName.TheVariants.{Duplicate}
use Rattle.ikey.specs.Key.{sequence_of}
use Rattle.ikey.specs.Comparator.{KeyOrder}
use Rattle.reads.specs.EncodedEntry.{Entry}
use Rattle.merge.specs.MergedLists.{merged}
use Rattle.merge.specs.Union.{VersionsRise, IsUnion}
use Rattle.split.specs.Boundaries.{IsSplit}
use Rattle.split.specs.Ranges.{KeyRange, range_at}
use Rattle.keep.specs.DropRule.{is_same_user, kept}
use Rattle.merge.specs.InRange.{entries_in}
use Rattle.keep.specs.declared.mark.Mark.{Mark}
use Rattle.keep.specs.Marks.{CompactionContext, marks, changes}

-- the kept entries of a range, and its marks
pub record Run : Type 0 where
  pub kept : List Entry
  pub marks : List Mark

-- the run of entries: the kept ones of them, and their marks
abbrev pub run_of : KeyOrder → CompactionContext → List Entry → Run
run_of cmp b entries =
    record { kept = kept cmp b.readable b.deeper entries; marks = marks cmp b entries }

-- whether two entries have one user key and one sequence
abbrev pub is_same_version : Entry → Entry → Bool
is_same_version a b = is_same_user a b && nat_eq (sequence_of a.key) (sequence_of b.key)

-- whether no user key has one sequence twice
abbrev pub are_distinct : List Entry → Bool
are_distinct [] = true
are_distinct (e ∷ es) = not (list_any (is_same_version e) es) && are_distinct es

-- The answer on a range of user keys. It is Duplicate if the range holds one user key and sequence
-- twice, else the run of the entries that the sorted merge of the inputs has there.
abbrev pub range_run : KeyOrder → CompactionContext → List (List Entry) → KeyRange →
    Result Run Fault
range_run cmp b inputs range =
    if are_distinct (entries_in cmp range (merged cmp inputs))
    then Ok (run_of cmp b (entries_in cmp range (merged cmp inputs)))
    else Err (fault Duplicate)

-- a mark, if n kept entries more come before it
abbrev pub moved_mark : ℕ → Mark → Mark
moved_mark n m = record { below = m.below; kept = n + m.kept }

-- the marks of runs, one after the other, with n kept entries before the first run
abbrev pub joined_marks : ℕ → List Run → List Mark
joined_marks n [] = []
joined_marks n (r ∷ rs) = map (moved_mark n) r.marks ++ joined_marks (n + length r.kept) rs

-- runs, one after the other
abbrev pub joined_run : List Run → Run
joined_run runs = record { kept = flat_map (λ r. r.kept) runs; marks = joined_marks 0 runs }

-- the ranges from a lower bound on: up to each boundary, and after the last
abbrev pub ranges_from : Option (List ℕ) → List (List ℕ) → List KeyRange
ranges_from lower [] = record { lower = lower; upper = None } ∷ []
ranges_from lower (b ∷ bs) = record { lower = lower; upper = Some b } ∷ ranges_from (Some b) bs

-- the k + 1 ranges of k boundaries, in order
abbrev pub ranges_of : List (List ℕ) → List KeyRange
ranges_of boundaries = ranges_from None boundaries

-- the entries of each range
abbrev pub entries_by_range : KeyOrder → List (List ℕ) → List Entry → List (List Entry)
entries_by_range cmp boundaries entries =
    map (λ range. entries_in cmp range entries) (ranges_of boundaries)

-- the run of each range
abbrev pub runs_of : KeyOrder → CompactionContext → List (List ℕ) → List Entry → List Run
runs_of cmp b boundaries union = map (run_of cmp b) (entries_by_range cmp boundaries union)

-- Ranges compose, however they are cut between user keys. The kept entries of the ranges in order
-- are those of the whole union. So are their marks, but a range's first mark may repeat the number
-- before it. Some range is refused exactly if all inputs together hold one user key and sequence
-- twice.
pub record RangesCompose (cmp : KeyOrder) : Type 0 where
  pub kept : (b : CompactionContext) (boundaries : List (List ℕ)) (union : List Entry) →
      IsSplit cmp boundaries → VersionsRise cmp union →
      (joined_run (runs_of cmp b boundaries union)).kept ≡ (run_of cmp b union).kept
  pub marks : (b : CompactionContext) (boundaries : List (List ℕ)) (union : List Entry) →
      IsSplit cmp boundaries → VersionsRise cmp union →
      changes (joined_run (runs_of cmp b boundaries union)).marks ≡ (run_of cmp b union).marks
  pub refused : (inputs : List (List Entry)) (boundaries : List (List ℕ)) → IsSplit cmp boundaries →
      list_all are_distinct (entries_by_range cmp boundaries (merged cmp inputs))
      ≡ are_distinct (merged cmp inputs)
  -- the ranges are those that a split gives
  pub ranges : (boundaries : List (List ℕ)) (i : ℕ) → i ≤ length boundaries →
      slice_get (ranges_of boundaries) i ≡ Some (range_at boundaries i)

-- inputs have a union exactly if no user key has one sequence twice, and it is their sorted merge
abbrev pub DistinctLaw : KeyOrder → Type 0
DistinctLaw cmp =
    (inputs : List (List Entry)) (union : List Entry) →
    IsUnion cmp inputs union
    ↔ ((union ≡ merged cmp inputs) × (are_distinct (merged cmp inputs) ≡ true))

-- what is kept of the entries of a range is what is kept of the whole union there
abbrev pub KeptInRangeLaw : KeyOrder → Type 0
KeptInRangeLaw cmp =
    (b : CompactionContext) (range : KeyRange) (union : List Entry) → VersionsRise cmp union →
    (run_of cmp b (entries_in cmp range union)).kept
    ≡ entries_in cmp range (run_of cmp b union).kept
