-- The rows of one range after the other.
use Rattle.std.proofs.Common.{◌≡◌, ℕ, suc, ◌+◌, ◌-◌, ◌<◌, Bool, true, List, [], ◌++◌, Option, Ok, sym, ap, subst, ◌∙◌, arith}
use Rattle.std.specs.declared.cmp.Ordering.{Ordering}
use Rattle.reads.specs.Ranges.{KeyRange, range_at}
use Rattle.folder.specs.meta.FileMeta.{FileMeta}
use Rattle.reads.specs.Tables.{NumberedContents}
use Rattle.checks.specs.RangeOrder.{common_of}
use Rattle.scan.specs.Row.{Row}
use Rattle.scan.specs.EntryRows.{file_rows, rows_from}
use Rattle.scan.specs.RowParts.{AreBegun, AreEnough, AreTelling, IsRowPart}
use Rattle.scan.specs.declared.row_limit.RowLimit.TheVariants.{More}
use Rattle.scan.proofs.Told.{begun_then, enough_then, more_then}
use Rattle.scan.specs.ToldRows.{telling_by}

module _ (cmp : List ℕ → List ℕ → Ordering) (tables : List NumberedContents) (files : List FileMeta) (at : ℕ) (range : KeyRange) (boundaries : List (List ℕ)) (all : ℕ) where
  -- the rows from a range on
  abbrev pub behind : ℕ → List Row
  behind k = rows_from (file_rows cmp tables files at) cmp range boundaries k (all - k)

  abbrev pub own_of : KeyRange → List Row
  own_of part = file_rows cmp tables files at part

  next_rows : (k : ℕ) (part : KeyRange) → k < all → part ≡ common_of cmp range (range_at boundaries k) → behind k ≡ own_of part ++ behind (k + 1)
  next_rows k part lt is =
      let more : all - k ≡ suc (all - (k + 1)) = omega arith in
      let next : suc k ≡ k + 1 = omega arith in
      ap (rows_from (file_rows cmp tables files at) cmp range boundaries k) more
      ∙ ap (λ (i : ℕ). own_of (common_of cmp range (range_at boundaries k)) ++ rows_from (file_rows cmp tables files at) cmp range boundaries i (all - (k + 1))) next
      ∙ ap (λ (p : KeyRange). own_of p ++ behind (k + 1)) (sym is)

  none_behind : (k : ℕ) → all ≡ k → behind k ≡ []
  none_behind k end =
      let none : all - k ≡ 0 = omega arith in
      ap (rows_from (file_rows cmp tables files at) cmp range boundaries k) none

  module _ {T : Type 0} (tells : T → Row → Bool → T → Type 0) (rows : List Row) (old now new : T) (limit left : Option ℕ) (k : ℕ) (so_far : IsRowPart (telling_by tells old now) rows limit (behind k) left true) where
    -- after the last range
    pub ranges_end : all ≡ k → IsRowPart (telling_by tells old now) rows limit [] left true
    ranges_end end = subst (λ (rs : List Row). IsRowPart (telling_by tells old now) rows limit rs left true) (none_behind k end) so_far

    module _ (part : KeyRange) (lt : k < all) (is : part ≡ common_of cmp range (range_at boundaries k)) where
      here : IsRowPart (telling_by tells old now) rows limit (own_of part ++ behind (k + 1)) left true
      here = subst (λ (rs : List Row). IsRowPart (telling_by tells old now) rows limit rs left true) (next_rows k part lt is) so_far

      pub ranges_more : (less : Option ℕ) → AreTelling tells (own_of part) now left new (Ok (More less)) → IsRowPart (telling_by tells old new) rows limit (behind (k + 1)) less true
      ranges_more less h = more_then tells rows (own_of part) (behind (k + 1)) old now new limit left here less h

      pub ranges_enough : AreEnough tells (own_of part) now left new → AreEnough tells rows old limit new
      ranges_enough h = enough_then tells rows (own_of part) (behind (k + 1)) old now new limit left here h

      pub ranges_begun : AreBegun tells (own_of part) now left new → AreBegun tells rows old limit new
      ranges_begun h = begun_then tells rows (own_of part) (behind (k + 1)) old now new limit left here h
