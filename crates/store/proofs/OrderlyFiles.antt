-- The files of a lawful version tell that it may be one.
use Rattle.std.proofs.Common.{◌≡◌, ℕ, zero, suc, ◌+◌, true, false, List, [], ◌∷◌, get_or, refl, subst, inl, inr, arith}
use Rattle.std.specs.List.{IsDistinct}
use Rattle.std.specs.List.Sorted.{IsStrictlySortedBy}
use Rattle.std.specs.Cmp.{IsTotalOrder}
use Rattle.std.specs.Ordering.{is_le, nat_cmp, ordering_then}
use Rattle.std.specs.declared.cmp.Ordering.{Ordering}
use Rattle.std.specs.declared.cmp.Ordering.TheVariants.{Less, Equal, Greater}
use Rattle.std.proofs.lemmas.List.Elements.{All-contains, Contains-get_or}
use Rattle.folder.specs.Order.{internal_cmp}
use Rattle.folder.proofs.Ordered.{internal_cmp-total}
use Rattle.folder.specs.Version.{State}
use Rattle.folder.specs.VersionOrder.{file_cmp, level_files}
use Rattle.folder.specs.meta.FileMeta.{FileMeta}
use Rattle.folder.specs.meta.NewFile.{NewFile}
use Rattle.folder.proofs.SortedFiles.{same_number}
use Rattle.pick.proofs.Lists.{IsIn}
use Rattle.reads.proofs.FileOrder.{is_range}
use Rattle.reads.proofs.LawfulVersions.{is_as_stated}
use Rattle.reads.proofs.Levels.{is_in}
use Rattle.reads.specs.Lawful.{AreDisjoint, IsBelowNextFile, IsLawful}
use Rattle.reads.specs.Tables.{NumberedContents}
use Rattle.compact.proofs.ClosedLevels.{file_at, level_disjoint, level_of}
use Rattle.compact.proofs.FileKeys.{below_not_upto, upto_below}
use Rattle.store.specs.InputsCompaction.{IsOrderly, RangesRise}

first_le : (o p : Ordering) → ordering_then o p ≡ Less → is_le o ≡ true
first_le Less p e = refl
first_le Equal p e = refl
first_le Greater p e = absurd cc

module _ (cmp : List ℕ → List ℕ → Ordering) (total : IsTotalOrder cmp) where
  -- a file's smallest key isn't above its largest
  abbrev IsUpward : FileMeta → Type 0
  IsUpward f = is_le (internal_cmp cmp f.smallest f.largest) ≡ true

  -- of two files in version order with disjoint ranges, the first ends before the second begins
  in_turn : (f g : FileMeta) → file_cmp cmp f g ≡ Less → AreDisjoint cmp f g → IsUpward g → internal_cmp cmp f.largest g.smallest ≡ Less
  in_turn f g less (inl before) up = before
  in_turn f g less (inr behind) up =
      let keys = internal_cmp-total total in
      let below : internal_cmp cmp g.smallest f.smallest ≡ Less = upto_below (internal_cmp cmp) keys g.smallest g.largest f.smallest up behind in
      absurd (below_not_upto (internal_cmp cmp) keys g.smallest f.smallest below (first_le (internal_cmp cmp f.smallest g.smallest) (nat_cmp f.number g.number) less))

  -- one file before files whose ranges rise
  one_before : (f g : FileMeta) (files : List FileMeta) → internal_cmp cmp f.largest g.smallest ≡ Less → RangesRise cmp (g ∷ files) → RangesRise cmp (f ∷ (g ∷ files))
  one_before f g files first rest zero d lt = first
  one_before f g files first rest (suc k) d lt =
      let next : suc (k + 1) ≡ suc k + 1 = omega arith in
      subst (λ (n : ℕ). internal_cmp cmp (get_or (g ∷ files) k d).largest (get_or (f ∷ (g ∷ files)) n d).smallest ≡ Less) next (rest k d (omega arith))

  -- so the ranges of files rise that are in version order, differ by number and have disjoint ranges
  ranges_rise : (files : List FileMeta) → IsStrictlySortedBy (file_cmp cmp) files → IsDistinct same_number files
      → ((f g : FileMeta) → IsIn files f → IsIn files g → same_number f g ≡ false → AreDisjoint cmp f g) → ((f : FileMeta) → IsIn files f → IsUpward f) → RangesRise cmp files
  unfolding IsDistinct IsStrictlySortedBy
  ranges_rise [] sorted distinct disjoint up = λ k d lt. absurd (omega arith)
  ranges_rise (f ∷ []) sorted distinct disjoint up = λ k d lt. absurd (omega arith)
  ranges_rise (f ∷ (g ∷ files)) sorted distinct disjoint up =
      one_before f g files (in_turn f g sorted.0.0 (disjoint f g (inl refl) (inr (inl refl)) distinct.0.0) (up g (inr (inl refl))))
      (ranges_rise (g ∷ files) sorted.1 distinct.1 (λ a b i j other. disjoint a b (inr i) (inr j) other) (λ a i. up a (inr i)))

  -- a lawful version is orderly
  pub orderly : (v : State) (tables : List NumberedContents) → IsLawful cmp v tables → IsOrderly cmp v
  orderly v tables lawful level low = record {
    below_next = λ k d lt.
        let f = get_or (level_files cmp v level) k d in
        let at = file_at cmp total v tables lawful level f (is_in (level_files cmp v level) f (Contains-get_or (level_files cmp v level) k d lt)) in
        let below : IsBelowNextFile v.next_file at.file.meta.number = All-contains (λ (x : NewFile). IsBelowNextFile v.next_file x.meta.number) v.files at.file lawful.below_next at.there in
        subst (λ (m : FileMeta). IsBelowNextFile v.next_file m.number) at.is below;
    rising = λ deep.
        let are = level_of cmp total v tables lawful level in
        ranges_rise (level_files cmp v level) are.rise are.differ
        (level_disjoint cmp total v tables lawful level (omega (arith, deep)))
        (λ f i.
        let at = file_at cmp total v tables lawful level f i in
        subst IsUpward at.is (is_range cmp total tables v.next_file at.file (is_as_stated cmp total v tables lawful at.file at.there)));
  }
