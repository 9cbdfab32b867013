-- The files of a version's levels.
use Rattle.std.proofs.Common.{Bor, ◌≡◌, ℕ, ◌+◌, ◌<◌, ◌≤◌, Bool, true, false, cond, ◌&&◌, eqb, List, [], ◌∷◌, map, get_or, Result, Ok, Err, refl, sym, ap, subst, ◌∙◌, inl, inr, arith, eq-or-lt_of_le}
use Rattle.std.specs.Prelude.{Contains}
use Rattle.std.specs.List.{All, list_all, filter}
use Rattle.std.specs.Option.{is_some}
use Rattle.std.specs.Cmp.{IsTotalOrder}
use Rattle.std.specs.declared.cmp.Ordering.{Ordering}
use Rattle.std.proofs.lemmas.Bool.Decides.{Decides-eqb}
use Rattle.std.proofs.lemmas.List.Elements.{All-contains, Contains-get_or}
use Rattle.std.proofs.lemmas.List.Sorted.{Contains-permutation}
use Rattle.ikey.specs.Answers.{fault}
use Rattle.ikey.specs.fault.Fault.{Fault}
use Rattle.ikey.proofs.Binds.{done}
use Rattle.ikey.specs.fault.FaultName.TheVariants.{Missing}
use Rattle.edit.specs.Version.{are_apart}
use Rattle.edit.specs.VersionOrder.{file_cmp, in_version_order, files_at}
use Rattle.edit.specs.declared.meta.FileMeta.{FileMeta}
use Rattle.edit.specs.declared.meta.NewFile.{NewFile}
use Rattle.edit.proofs.Tested.{both_true}
use Rattle.edit.proofs.SortedFiles.{IsIn, version_cmp-total, from_all, order_permutes}
use Rattle.reads.specs.Tables.{NumberedContents, table_of_number, tables_test}
use Rattle.reads.proofs.Members.{first_or_later, later_in, first_in, none_in, in_filter, from_filter, in_map, from_map}

-- ---- tests of all elements

pub all_at : {X : Type 0} (p : X → Bool) (xs : List X) (x : X) → list_all p xs ≡ true → Contains xs x → p x ≡ true
all_at p [] x h at = absurd (none_in x at)
all_at p (y ∷ xs) x h at =
    let both = both_true (p y) (list_all p xs) h in
    elim (first_or_later y xs x at) [ inl same ↦ ap p same ∙ both.0 | inr later ↦ all_at p xs x both.1 later ]

pub all_of : {X : Type 0} (p : X → Bool) (xs : List X) → ((x : X) → Contains xs x → p x ≡ true) → list_all p xs ≡ true
all_of p [] h = refl
all_of p (y ∷ xs) h = ap (λ (b : Bool). b && list_all p xs) (h y (first_in y xs)) ∙ all_of p xs (λ x at. h x (later_in y xs x at))

pub record HasFailing {X : Type 0} (p : X → Bool) (xs : List X) : Type 0 where
  pub element : X
  pub there : Contains xs element
  pub fails : p element ≡ false

fails_later : {X : Type 0} (p : X → Bool) (y : X) (xs : List X) → HasFailing p xs → HasFailing p (y ∷ xs)
fails_later p y xs h = record { element = h.element; there = later_in y xs h.element h.there; fails = h.fails }

fails_by : {X : Type 0} (p : X → Bool) (y : X) (xs : List X) (b : Bool) → p y ≡ b → (b && list_all p xs) ≡ false → (list_all p xs ≡ false → HasFailing p xs) → HasFailing p (y ∷ xs)
fails_by p y xs true e h rest = fails_later p y xs (rest h)
fails_by p y xs false e h rest = record { element = y; there = first_in y xs; fails = e }

pub not_all : {X : Type 0} (p : X → Bool) (xs : List X) → list_all p xs ≡ false → HasFailing p xs
not_all p [] h = absurd cc
not_all p (y ∷ xs) h = fails_by p y xs (p y) refl h (not_all p xs)

pub all_fails : {X : Type 0} (p : X → Bool) (xs : List X) → HasFailing p xs → list_all p xs ≡ false
all_fails p xs h = by_all (list_all p xs) refl
  where
    by_all : (b : Bool) → list_all p xs ≡ b → list_all p xs ≡ false
    by_all true e = let both : true ≡ false = sym (all_at p xs h.element e h.there) ∙ h.fails in absurd cc
    by_all false e = e

-- ---- the files of a level

pub is_in : (xs : List FileMeta) (q : FileMeta) → Contains xs q → IsIn xs q
is_in [] q at = none_in q at
is_in (x ∷ xs) q at = elim (first_or_later x xs q at) [ inl same ↦ inl same | inr later ↦ inr (is_in xs q later) ]

pub contains_in : (xs : List FileMeta) (q : FileMeta) → IsIn xs q → Contains xs q
contains_in [] q at = absurd at
contains_in (x ∷ xs) q (inl same) = subst (Contains (x ∷ xs)) (sym same) (first_in x xs)
contains_in (x ∷ xs) q (inr later) = later_in x xs q (contains_in xs q later)

-- the file of a version that a file of a level is
pub record IsAtLevel (files : List NewFile) (level : ℕ) (meta : FileMeta) : Type 0 where
  pub file : NewFile
  pub there : Contains files file
  pub stands : file.level ≡ level
  pub is : file.meta ≡ meta

module _ (cmp : List ℕ → List ℕ → Ordering) (total : IsTotalOrder cmp) (files : List NewFile) (level : ℕ) where
  pub from_level : (meta : FileMeta) → Contains (in_version_order cmp (files_at files level)) meta → IsAtLevel files level meta
  from_level meta at = of_file (elim (from_all (file_cmp cmp) (version_cmp-total total) [] (files_at files level) meta (is_in (in_version_order cmp (files_at files level)) meta at)) [ inl i ↦ absurd i | inr i ↦ contains_in (files_at files level) meta i ])
    where
      of_file : Contains (files_at files level) meta → IsAtLevel files level meta
      of_file there =
          let mapped = from_map (λ (f : NewFile). f.meta) (filter (λ (f : NewFile). eqb f.level level) files) meta there in
          let kept = from_filter (λ (f : NewFile). eqb f.level level) files mapped.source mapped.there in
          record { file = mapped.source; there = kept.0; stands = (Decides-eqb mapped.source.level level).0 kept.1; is = mapped.is }

  pub at_level : are_apart files ≡ true → (f : NewFile) → Contains files f → f.level ≡ level → Contains (in_version_order cmp (files_at files level)) f.meta
  at_level apart f at own =
      let kept = in_filter (λ (f : NewFile). eqb f.level level) files f ((Decides-eqb f.level level).1 own) at in
      let mapped = in_map (λ (f : NewFile). f.meta) (filter (λ (f : NewFile). eqb f.level level) files) f kept in
      Contains-permutation (files_at files level) (in_version_order cmp (files_at files level)) f.meta (order_permutes total files level apart) mapped

  -- the same of files that are lent
  module _ (items : List (Bor FileMeta)) (is : map (λ (f : Bor FileMeta). f.now) items ≡ in_version_order cmp (files_at files level)) where
    pub lent_from : (f : Bor FileMeta) → Contains items f → IsAtLevel files level f.now
    lent_from f at = from_level f.now (subst (λ (l : List FileMeta). Contains l f.now) is (in_map (λ (f : Bor FileMeta). f.now) items f at))

    pub record IsLent (meta : FileMeta) : Type 0 where
      pub lent : Bor FileMeta
      pub there : Contains items lent
      pub of : lent.now ≡ meta

    pub lent_at : are_apart files ≡ true → (f : NewFile) → Contains files f → f.level ≡ level → IsLent f.meta
    lent_at apart f at own =
        let mapped = from_map (λ (f : Bor FileMeta). f.now) items f.meta (subst (λ (l : List FileMeta). Contains l f.meta) (sym is) (at_level apart f at own)) in
        record { lent = mapped.source; there = mapped.there; of = mapped.is }

-- ---- that each file has a table

abbrev pub tested : Bool → Result (Unit {0}) Fault
tested b = cond b (Ok tt) (Err (fault Missing))

-- the files of the levels before this one have tables
pub record HaveTables (tables : List NumberedContents) (files : List NewFile) (level : ℕ) : Type 0 where
  pub there : (f : NewFile) → Contains files f → f.level < level → is_some (table_of_number tables f.meta.number) ≡ true
  pub low : 0 < level → All (λ (f : NewFile). f.level ≤ 6) files

pub none_tested : (tables : List NumberedContents) (files : List NewFile) → HaveTables tables files 0
none_tested tables files = record { there = λ f at lt. absurd (omega arith); low = λ lt. absurd (omega arith) }

pub level_tested : (cmp : List ℕ → List ℕ → Ordering) (total : IsTotalOrder cmp) (tables : List NumberedContents) (files : List NewFile) (level : ℕ) (items : List (Bor FileMeta))
    → map (λ (f : Bor FileMeta). f.now) items ≡ in_version_order cmp (files_at files level) → are_apart files ≡ true → All (λ (f : NewFile). f.level ≤ 6) files
    → list_all (λ (f : Bor FileMeta). is_some (table_of_number tables f.now.number)) items ≡ true → HaveTables tables files level → HaveTables tables files (level + 1)
level_tested cmp total tables files level items is apart low all so_far = record {
  there = λ f at lt. elim (eq-or-lt_of_le (at_most f.level lt)) [ inl own ↦ at_own f at own | inr before ↦ so_far.there f at before ];
  low = λ lt. low;
}
  where
    at_most : (n : ℕ) → n < level + 1 → n ≤ level
    at_most n lt = omega arith

    at_own : (f : NewFile) → Contains files f → f.level ≡ level → is_some (table_of_number tables f.meta.number) ≡ true
    at_own f at own =
        let lent = lent_at cmp total files level items is apart f at own in
        ap (λ (m : FileMeta). is_some (table_of_number tables m.number)) (sym lent.of) ∙ all_at (λ (f : Bor FileMeta). is_some (table_of_number tables f.now.number)) items lent.lent all lent.there

pub all_tested : (tables : List NumberedContents) (files : List NewFile) → HaveTables tables files 7 → tables_test tables files ≡ Ok tt
all_tested tables files so_far =
    let low = so_far.low (omega arith) in
    let all : list_all (λ (f : NewFile). is_some (table_of_number tables f.meta.number)) files ≡ true =
    all_of (λ (f : NewFile). is_some (table_of_number tables f.meta.number)) files (λ f at. let le : f.level ≤ 6 = All-contains (λ (f : NewFile). f.level ≤ 6) files f low at in so_far.there f at (omega arith)) in
    ap tested all

pub one_missing : (cmp : List ℕ → List ℕ → Ordering) (total : IsTotalOrder cmp) (tables : List NumberedContents) (files : List NewFile) (level : ℕ) (items : List (Bor FileMeta))
    → map (λ (f : Bor FileMeta). f.now) items ≡ in_version_order cmp (files_at files level) → list_all (λ (f : Bor FileMeta). is_some (table_of_number tables f.now.number)) items ≡ false → tables_test tables files ≡ Err (fault Missing)
one_missing cmp total tables files level items is some_fails =
    let failing = not_all (λ (f : Bor FileMeta). is_some (table_of_number tables f.now.number)) items some_fails in
    let at = lent_from cmp total files level items is failing.element failing.there in
    let fails : is_some (table_of_number tables at.file.meta.number) ≡ false = ap (λ (m : FileMeta). is_some (table_of_number tables m.number)) at.is ∙ failing.fails in
    let all : list_all (λ (f : NewFile). is_some (table_of_number tables f.meta.number)) files ≡ false =
    all_fails (λ (f : NewFile). is_some (table_of_number tables f.meta.number)) files (record { element = at.file; there = at.there; fails = fails }) in
    ap tested all

pub done_is : (b : Bool) → tested b ≡ done tt → b ≡ true
done_is true e = refl
done_is false e = absurd cc

-- if each file has a table, each of a level has one
pub level_there : (cmp : List ℕ → List ℕ → Ordering) (total : IsTotalOrder cmp) (tables : List NumberedContents) (files : List NewFile) (level : ℕ) (items : List (Bor FileMeta))
    → map (λ (f : Bor FileMeta). f.now) items ≡ in_version_order cmp (files_at files level) → tables_test tables files ≡ Ok tt → All (λ (f : Bor FileMeta). is_some (table_of_number tables f.now.number) ≡ true) items
level_there cmp total tables files level items is test k d lt =
    let all = done_is (list_all (λ (f : NewFile). is_some (table_of_number tables f.meta.number)) files) test in
    let at = lent_from cmp total files level items is (get_or items k d) (Contains-get_or items k d lt) in
    ap (λ (m : FileMeta). is_some (table_of_number tables m.number)) (sym at.is) ∙ all_at (λ (f : NewFile). is_some (table_of_number tables f.meta.number)) files at.file all at.there
