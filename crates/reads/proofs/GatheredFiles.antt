-- The files of a version, gathered level by level.
use Rattle.std.proofs.Common.{Bor, ◌≡◌, ℕ, ◌+◌, ◌<◌, ◌≤◌, true, List, [], ◌++◌, map, sym, ap, subst, ◌∙◌, inl, inr, arith, eq-or-lt_of_le}
use Rattle.std.specs.Prelude.{◌⊎◌, Contains}
use Rattle.std.specs.List.{All}
use Rattle.std.specs.Cmp.{IsTotalOrder}
use Rattle.std.specs.declared.cmp.Ordering.{Ordering}
use Rattle.std.proofs.lemmas.List.Elements.{All-contains, Contains-append_left, Contains-append_right, Contains-append_cases}
use Rattle.std.proofs.lemmas.Map.Keys.{IsDistinct-IsPermutation}
use Rattle.edit.specs.Version.{are_apart}
use Rattle.edit.specs.VersionOrder.{in_version_order, files_at, at_level}
use Rattle.edit.specs.declared.meta.FileMeta.{FileMeta}
use Rattle.edit.specs.declared.meta.NewFile.{NewFile}
use Rattle.edit.proofs.SortedFiles.{same_number, order_permutes, distinct_at}
use Rattle.edit.proofs.Tested.{eqb-sym}
use Rattle.reads.specs.FileList.{AreAll}
use Rattle.reads.proofs.Apart.{one_number, AreTwo, AreTwoMetas, metas_apart, pairs_distinct}
use Rattle.reads.proofs.Pairs.{Pairs, pairs_append, pairs_map, pairs_unmap}
use Rattle.reads.proofs.Members.{none_in, in_map, from_map}
use Rattle.reads.proofs.Levels.{lent_from, lent_at}

-- the files of the levels before this one are listed, and no others
pub record AreGathered (files listed : List NewFile) (level : ℕ) : Type 0 where
  pub apart : 0 < level → are_apart files ≡ true
  pub low : 0 < level → All (λ (f : NewFile). f.level ≤ 6) files
  pub before : (f : NewFile) → Contains listed f → f.level < level
  pub distinct : Pairs AreTwo listed
  pub all : (f : NewFile) → Contains files f → f.level < level → Contains listed f
  pub only : (f : NewFile) → Contains listed f → Contains files f

pub none_gathered : (files : List NewFile) → AreGathered files [] 0
none_gathered files = record { apart = λ lt. absurd (omega arith); low = λ lt. absurd (omega arith); before = λ f at. absurd (none_in f at); distinct = tt; all = λ f at lt. absurd (omega arith); only = λ f at. absurd (none_in f at) }

-- a file of a version at a level
record IsOwn (files : List NewFile) (level : ℕ) (f : NewFile) : Type 0 where
  there : Contains files f
  stands : f.level ≡ level

pub more_gathered : (cmp : List ℕ → List ℕ → Ordering) (total : IsTotalOrder cmp) (files listed after : List NewFile) (level : ℕ) (items : List (Bor FileMeta))
    → map (λ (f : Bor FileMeta). f.now) items ≡ in_version_order cmp (files_at files level) → are_apart files ≡ true → All (λ (f : NewFile). f.level ≤ 6) files
    → after ≡ listed ++ map (λ (f : Bor FileMeta). at_level level f.now) items → AreGathered files listed level → AreGathered files after (level + 1)
more_gathered cmp total files listed after level items is apart low made so_far = record {
  apart = λ lt. apart;
  low = λ lt. low;
  before = λ f at. elim (new_or_old f at) [ inl old ↦ omega (arith, so_far.before f old) | inr new ↦ omega (arith, (of_own f new).stands) ];
  distinct = subst (Pairs AreTwo) (sym made) (pairs_append AreTwo listed (map (λ (g : Bor FileMeta). at_level level g.now) items) so_far.distinct own_apart across);
  all = λ f at lt. subst (λ (l : List NewFile). Contains l f) (sym made) (elim (eq-or-lt_of_le (at_most f.level lt)) [
    | inl own ↦ Contains-append_right listed (map (λ (g : Bor FileMeta). at_level level g.now) items) f (at_own f at own)
    | inr before ↦ Contains-append_left listed (map (λ (g : Bor FileMeta). at_level level g.now) items) f (so_far.all f at before)
  ]);
  only = λ f at. elim (new_or_old f at) [ inl old ↦ so_far.only f old | inr new ↦ (of_own f new).there ];
}
  where
    at_most : (n : ℕ) → n < level + 1 → n ≤ level
    at_most n lt = omega arith

    at_own : (f : NewFile) → Contains files f → f.level ≡ level → Contains (map (λ (g : Bor FileMeta). at_level level g.now) items) f
    at_own f at own =
        let lent = lent_at cmp total files level items is apart f at own in
        let same : at_level level lent.lent.now ≡ f = ap (at_level level) lent.of ∙ ap (λ (n : ℕ). at_level n f.meta) (sym own) in
        subst (Contains (map (λ (g : Bor FileMeta). at_level level g.now) items)) same (in_map (λ (g : Bor FileMeta). at_level level g.now) items lent.lent lent.there)

    new_or_old : (f : NewFile) → Contains after f → Contains listed f ⊎ Contains (map (λ (g : Bor FileMeta). at_level level g.now) items) f
    new_or_old f at = Contains-append_cases listed (map (λ (g : Bor FileMeta). at_level level g.now) items) f (subst (λ (l : List NewFile). Contains l f) made at)

    of_own : (f : NewFile) → Contains (map (λ (g : Bor FileMeta). at_level level g.now) items) f → IsOwn files level f
    of_own f at =
        let mapped = from_map (λ (g : Bor FileMeta). at_level level g.now) items f at in
        let of = lent_from cmp total files level items is mapped.source mapped.there in
        let same : of.file ≡ f = ap (λ (n : ℕ). at_level n of.file.meta) of.stands ∙ ap (at_level level) of.is ∙ mapped.is in
        record { there = subst (Contains files) same of.there; stands = sym (ap (λ (x : NewFile). x.level) same) ∙ of.stands }

    own_apart : Pairs AreTwo (map (λ (g : Bor FileMeta). at_level level g.now) items)
    own_apart =
        let sorted = IsDistinct-IsPermutation same_number (λ (f : FileMeta) (g : FileMeta). eqb-sym f.number g.number) (files_at files level) (in_version_order cmp (files_at files level)) (order_permutes total files level apart) (distinct_at files level apart) in
        pairs_map AreTwo (λ (g : Bor FileMeta). at_level level g.now) items
        (pairs_unmap AreTwoMetas (λ (g : Bor FileMeta). g.now) items (subst (Pairs AreTwoMetas) (sym is) (metas_apart (in_version_order cmp (files_at files level)) sorted)))

    across : (f g : NewFile) → Contains listed f → Contains (map (λ (g : Bor FileMeta). at_level level g.now) items) g → AreTwo f g
    across f g i j same =
        let own = of_own g j in
        let one : f.level ≡ g.level = ap (λ (x : NewFile). x.level) (one_number files apart f g (so_far.only f i) own.there same) in
        absurd (omega (arith, so_far.before f i, own.stands))

pub all_gathered : (files listed : List NewFile) (level : ℕ) → 7 ≤ level → AreGathered files listed level → AreAll files listed
all_gathered files listed level end so_far = record {
  apart = so_far.apart (omega arith);
  distinct = pairs_distinct listed so_far.distinct;
  all = λ f at. let le : f.level ≤ 6 = All-contains (λ (g : NewFile). g.level ≤ 6) files f (so_far.low (omega arith)) at in so_far.all f at (omega arith);
  only = so_far.only;
}
