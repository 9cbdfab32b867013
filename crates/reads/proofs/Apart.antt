-- Files whose numbers are apart.
use Rattle.std.proofs.Common.{◌≡◌, ℕ, zero, suc, ◌<◌, Bool, true, false, not, eqb, List, [], ◌∷◌, length, map, get_or, refl, sym, ap, ◌∙◌, inl, inr, arith}
use Rattle.std.specs.Prelude.{◌≢◌, ◌⊎◌, Contains}
use Rattle.std.specs.List.{IsDistinct}
use Rattle.std.specs.List.Sorted.{IsPermutation}
use Rattle.std.proofs.lemmas.Bool.Decides.{Decides-eqb}
use Rattle.std.proofs.lemmas.List.Elements.{Contains-get_or}
use Rattle.std.proofs.lemmas.List.Sorted.{Contains-permutation, IsPermutation-sym, IsPermutation-map}
use Rattle.std.proofs.lemmas.Map.Keys.{IsDistinct-IsPermutation}
use Rattle.edit.specs.Version.{has_number, are_apart}
use Rattle.edit.specs.declared.meta.FileMeta.{FileMeta}
use Rattle.edit.specs.declared.meta.NewFile.{NewFile}
use Rattle.edit.proofs.SortedFiles.{same_number}
use Rattle.edit.proofs.Tested.{both_true, both_false, not_is_true, eqb-sym}
use Rattle.reads.specs.declared.level_file.LevelFile.{LevelFile}
use Rattle.reads.specs.FileList.{level_file_in, same_file, AreAll}
use Rattle.reads.proofs.Members.{first_or_later, none_in}
use Rattle.reads.proofs.FallingEntries.{each_of, of_each}
use Rattle.reads.proofs.Pairs.{Pairs}

-- ---- files of one number are one file

has_it : (files : List NewFile) (n : ℕ) → has_number files n ≡ false → (f : NewFile) → Contains files f → n ≢ f.meta.number
has_it [] n h f at same = absurd (none_in f at)
has_it (g ∷ files) n h f at same =
    let both = both_false (eqb n g.meta.number) (has_number files n) h in
    elim (first_or_later g files f at) [
      | inl is ↦ differs both.0 (same ∙ ap (λ (x : NewFile). x.meta.number) is)
      | inr later ↦ has_it files n both.1 f later same
    ]
  where
    differs : eqb n g.meta.number ≡ false → n ≡ g.meta.number → ⊥
    differs e one = let both : true ≡ false = sym ((Decides-eqb n g.meta.number).1 one) ∙ e in absurd cc

pub one_number : (files : List NewFile) → are_apart files ≡ true → (f g : NewFile) → Contains files f → Contains files g → f.meta.number ≡ g.meta.number → f ≡ g
one_number [] h f g i j same = absurd (none_in f i)
one_number (z ∷ files) h f g i j same = by_places (both_true (not (has_number files z.meta.number)) (are_apart files) h) (first_or_later z files f i) (first_or_later z files g j) (λ rest k l. one_number files rest f g k l same)
  where
    by_places : (not (has_number files z.meta.number) ≡ true) × (are_apart files ≡ true) → (f ≡ z) ⊎ Contains files f → (g ≡ z) ⊎ Contains files g → (are_apart files ≡ true → Contains files f → Contains files g → f ≡ g) → f ≡ g
    by_places apart (inl e) (inl k) rest = e ∙ sym k
    by_places apart (inl e) (inr l) rest = absurd (has_it files z.meta.number (not_is_true (has_number files z.meta.number) apart.0) g l (ap (λ (x : NewFile). x.meta.number) (sym e) ∙ same))
    by_places apart (inr l) (inl k) rest = absurd (has_it files z.meta.number (not_is_true (has_number files z.meta.number) apart.0) f l (ap (λ (x : NewFile). x.meta.number) (sym k) ∙ sym same))
    by_places apart (inr k) (inr l) rest = rest apart.1 k l

-- two places of one list of files hold two files
pub apart_places : (files : List NewFile) → are_apart files ≡ true → (i j : ℕ) (d : NewFile) → i < j → j < length files → (get_or files i d).meta.number ≢ (get_or files j d).meta.number
apart_places [] h i j d lt below same = absurd (omega arith)
apart_places (z ∷ files) h i zero d lt below same = absurd (omega arith)
apart_places (z ∷ files) h zero (suc j) d lt below same =
    let apart = both_true (not (has_number files z.meta.number)) (are_apart files) h in
    has_it files z.meta.number (not_is_true (has_number files z.meta.number) apart.0) (get_or files j d) (Contains-get_or files j d (omega arith)) same
apart_places (z ∷ files) h (suc i) (suc j) d lt below same = apart_places files (both_true (not (has_number files z.meta.number)) (are_apart files) h).1 i j d (omega arith) (omega arith) same

-- ---- lists in which each number stands once

two_numbers : (m n : ℕ) → eqb m n ≡ false → m ≢ n
two_numbers m n e same = let both : true ≡ false = sym ((Decides-eqb m n).1 same) ∙ e in absurd cc

not_equal : (m n : ℕ) → m ≢ n → eqb m n ≡ false
not_equal m n other = by_test (eqb m n) refl
  where
    by_test : (b : Bool) → eqb m n ≡ b → eqb m n ≡ false
    by_test true e = absurd (other ((Decides-eqb m n).0 e))
    by_test false e = e

-- two files have two numbers
abbrev pub AreTwo : NewFile → NewFile → Type 0
AreTwo f g = f.meta.number ≢ g.meta.number

abbrev pub AreTwoMetas : FileMeta → FileMeta → Type 0
AreTwoMetas f g = f.number ≢ g.number

pub metas_apart : (metas : List FileMeta) → IsDistinct same_number metas → Pairs AreTwoMetas metas
unfolding IsDistinct
metas_apart [] h = tt
metas_apart (f ∷ metas) h = (λ g at. two_numbers f.number g.number (each_of (λ (x : FileMeta). same_number f x ≡ false) metas h.0 g at), metas_apart metas h.1)

pub distinct_pairs : (files : List NewFile) → IsDistinct same_file files → Pairs AreTwo files
unfolding IsDistinct
distinct_pairs [] h = tt
distinct_pairs (f ∷ files) h = (λ g at. two_numbers f.meta.number g.meta.number (each_of (λ (x : NewFile). same_file f x ≡ false) files h.0 g at), distinct_pairs files h.1)

pub pairs_distinct : (files : List NewFile) → Pairs AreTwo files → IsDistinct same_file files
unfolding IsDistinct
pairs_distinct [] h = tt
pairs_distinct (f ∷ files) h = (of_each (λ (x : NewFile). same_file f x ≡ false) files (λ g at. not_equal f.meta.number g.meta.number (h.0 g at)), pairs_distinct files h.1)

-- files that are listed in another order are still all
pub listed_again : (files : List NewFile) (items again : List LevelFile) → IsPermutation items again → AreAll files (map level_file_in items) → AreAll files (map level_file_in again)
listed_again files items again p all =
    let moved = IsPermutation-map level_file_in items again p in
    let back = IsPermutation-sym (map level_file_in items) (map level_file_in again) moved in
    record {
      apart = all.apart;
      distinct = IsDistinct-IsPermutation same_file (λ (f : NewFile) (g : NewFile). eqb-sym f.meta.number g.meta.number) (map level_file_in items) (map level_file_in again) moved all.distinct;
      all = λ f at. Contains-permutation (map level_file_in items) (map level_file_in again) f moved (all.all f at);
      only = λ f at. all.only f (Contains-permutation (map level_file_in again) (map level_file_in items) f back at);
    }
