-- The numbers of a version's files, before and after an edit.
use Rattle.std.proofs.Common.{◌≡◌, ◌⊎◌, ◌<◌, ◌≤◌, ◌+◌, ◌^◌, ℕ, zero, suc, nat_eq, Bool, true, false, not, ◌&&◌, List, [], ◌∷◌, ◌++◌, map, Some, None, refl, sym, ap, subst, ◌∙◌, inl, inr, arith, if◌then◌else◌}
use Rattle.std.proofs.lemmas.Bool.{eqb-true}
use Rattle.std.proofs.lemmas.List.Elements.{All-head, All-tail}
use Rattle.std.specs.List.{All, AllByRecursion, filter, fold, list_all}
use Rattle.std.specs.BTreeSet.{insert_key}
use Rattle.std.specs.Ordering.{is_eq, match_ordering, nat_cmp, ordering_then}
use Rattle.std.specs.declared.cmp.Ordering.{Ordering}
use Rattle.std.specs.declared.cmp.Ordering.TheVariants.{Equal, Greater, Less}
use Rattle.edit.specs.Order.{internal_cmp}
use Rattle.edit.specs.Edit.{Edit, IsEdit, empty_edit, with_field}
use Rattle.edit.specs.Field.{AddFile, DeleteFile, Field, IsField, SetComparator, SetLastSequence, SetLogNumber, SetNextFile, SetPointer, SetPreviousLog}
use Rattle.edit.specs.Version.{State, applied, are_new, files_after, has_place, is_deleted, undeleted_files, number_cmp}
use Rattle.edit.specs.VersionOrder.{files_at, file_cmp}
use Rattle.edit.specs.declared.meta.FileMeta.{FileMeta}
use Rattle.edit.specs.declared.meta.NewFile.{NewFile}
use Rattle.edit.proofs.Tested.{is_eq-nat_cmp}
use Rattle.folder.specs.Levels.{by_level, file_numbers, numbers_at}
use Rattle.folder.specs.ReadsAs.{IsOneOf}
use Rattle.install.proofs.Options.{made, option_parts}

-- what stands in one of two lists
pub among_append : (xs ys : List ℕ) (n : ℕ) → IsOneOf (xs ++ ys) n → IsOneOf xs n ⊎ IsOneOf ys n
among_append [] ys n m = inr m
among_append (x ∷ xs) ys n (inl same) = inl (inl same)
among_append (x ∷ xs) ys n (inr m) = elim (among_append xs ys n m) [ inl a ↦ inl (inr a) | inr b ↦ inr b ]

pub among_first : (xs ys : List ℕ) (n : ℕ) → IsOneOf xs n → IsOneOf (xs ++ ys) n
among_first [] ys n m = absurd m
among_first (x ∷ xs) ys n (inl same) = inl same
among_first (x ∷ xs) ys n (inr m) = inr (among_first xs ys n m)

pub among_second : (xs ys : List ℕ) (n : ℕ) → IsOneOf ys n → IsOneOf (xs ++ ys) n
among_second [] ys n m = m
among_second (x ∷ xs) ys n m = inr (among_second xs ys n m)

module _ {A : Type 0} (number : A → ℕ) where
  inserted_by : (o : Ordering) (x k : A) (xs rest : List A) (n : ℕ) → (IsOneOf (map number rest) n → (n ≡ number k) ⊎ IsOneOf (map number xs) n)
      → IsOneOf (map number (match_ordering o (k ∷ x ∷ xs) (x ∷ xs) (x ∷ rest))) n → (n ≡ number k) ⊎ IsOneOf (map number (x ∷ xs)) n
  inserted_by Less x k xs rest n h (inl same) = inl same
  inserted_by Less x k xs rest n h (inr m) = inr m
  inserted_by Equal x k xs rest n h m = inr m
  inserted_by Greater x k xs rest n h (inl same) = inr (inl same)
  inserted_by Greater x k xs rest n h (inr m) = elim (h m) [ inl a ↦ inl a | inr b ↦ inr (inr b) ]

  inserted : (cmp : A → A → Ordering) (xs : List A) (k : A) (n : ℕ) → IsOneOf (map number (insert_key cmp xs k)) n → (n ≡ number k) ⊎ IsOneOf (map number xs) n
  inserted cmp [] k n m = m
  inserted cmp (x ∷ xs) k n m = inserted_by (cmp k x) x k xs (insert_key cmp xs k) n (inserted cmp xs k n) m

  -- what stands in order stood in one of the two
  from_order : (cmp : A → A → Ordering) (xs files : List A) (n : ℕ) → IsOneOf (map number (fold (insert_key cmp) xs files)) n → IsOneOf (map number xs) n ⊎ IsOneOf (map number files) n
  from_order cmp xs [] n m = inl m
  from_order cmp xs (f ∷ files) n m = elim (from_order cmp (insert_key cmp xs f) files n m) [
    | inl a ↦ elim (inserted cmp xs f n a) [ inl same ↦ inr (inl same) | inr b ↦ inl b ]
    | inr c ↦ inr (inr c)
  ]

  kept_by : (o : Ordering) (x k : A) (xs rest : List A) (n : ℕ) → (o ≡ Equal → number k ≡ number x) → ((n ≡ number k) ⊎ IsOneOf (map number xs) n → IsOneOf (map number rest) n)
      → (n ≡ number k) ⊎ IsOneOf (map number (x ∷ xs)) n → IsOneOf (map number (match_ordering o (k ∷ x ∷ xs) (x ∷ xs) (x ∷ rest))) n
  kept_by Less x k xs rest n tie h (inl same) = inl same
  kept_by Less x k xs rest n tie h (inr m) = inr m
  kept_by Equal x k xs rest n tie h (inl same) = inl (same ∙ tie refl)
  kept_by Equal x k xs rest n tie h (inr m) = m
  kept_by Greater x k xs rest n tie h (inl same) = inr (h (inl same))
  kept_by Greater x k xs rest n tie h (inr (inl same)) = inl same
  kept_by Greater x k xs rest n tie h (inr (inr m)) = inr (h (inr m))

  kept : (cmp : A → A → Ordering) → ((a b : A) → cmp a b ≡ Equal → number a ≡ number b) → (xs : List A) (k : A) (n : ℕ) → (n ≡ number k) ⊎ IsOneOf (map number xs) n → IsOneOf (map number (insert_key cmp xs k)) n
  kept cmp tie [] k n m = m
  kept cmp tie (x ∷ xs) k n m = kept_by (cmp k x) x k xs (insert_key cmp xs k) n (tie k x) (kept cmp tie xs k n) m

  -- what stood in one of the two stands in order
  pub to_order : (cmp : A → A → Ordering) → ((a b : A) → cmp a b ≡ Equal → number a ≡ number b) → (xs files : List A) (n : ℕ) → IsOneOf (map number xs) n ⊎ IsOneOf (map number files) n → IsOneOf (map number (fold (insert_key cmp) xs files)) n
  to_order cmp tie xs [] n (inl m) = m
  to_order cmp tie xs [] n (inr m) = absurd m
  to_order cmp tie xs (f ∷ files) n (inl m) = to_order cmp tie (insert_key cmp xs f) files n (inl (kept cmp tie xs f n (inr m)))
  to_order cmp tie xs (f ∷ files) n (inr (inl same)) = to_order cmp tie (insert_key cmp xs f) files n (inl (kept cmp tie xs f n (inl same)))
  to_order cmp tie xs (f ∷ files) n (inr (inr m)) = to_order cmp tie (insert_key cmp xs f) files n (inr m)

  filtered_by : (b : Bool) (x : A) (rest : List A) (n : ℕ) → IsOneOf (map number (if b then x ∷ rest else rest)) n → (n ≡ number x) ⊎ IsOneOf (map number rest) n
  filtered_by true x rest n m = m
  filtered_by false x rest n m = inr m

  -- what is left of a list was in it
  filtered : (test : A → Bool) (xs : List A) (n : ℕ) → IsOneOf (map number (filter test xs)) n → IsOneOf (map number xs) n
  filtered test [] n m = m
  filtered test (x ∷ xs) n m = elim (filtered_by (test x) x (filter test xs) n m) [ inl same ↦ inl same | inr k ↦ inr (filtered test xs n k) ]

  left_first : (b : Bool) (x : A) (rest : List A) (n : ℕ) → b ≡ true → n ≡ number x → IsOneOf (map number (if b then x ∷ rest else rest)) n
  left_first true x rest n h same = inl same
  left_first false x rest n h same = absurd (cc h)

  left_behind : (b : Bool) (x : A) (rest : List A) (n : ℕ) → IsOneOf (map number rest) n → IsOneOf (map number (if b then x ∷ rest else rest)) n
  left_behind true x rest n m = inr m
  left_behind false x rest n m = m

abbrev pub numbers_in : List NewFile → List ℕ
numbers_in files = map (λ (f : NewFile). f.meta.number) files

abbrev number_of : FileMeta → ℕ
number_of f = f.number

abbrev meta_of : NewFile → FileMeta
meta_of f = f.meta

metas_in : (files : List NewFile) (n : ℕ) → IsOneOf (map number_of (map meta_of files)) n → IsOneOf (numbers_in files) n
metas_in [] n m = m
metas_in (f ∷ files) n (inl same) = inl same
metas_in (f ∷ files) n (inr m) = inr (metas_in files n m)

in_metas : (files : List NewFile) (n : ℕ) → IsOneOf (numbers_in files) n → IsOneOf (map number_of (map meta_of files)) n
in_metas [] n m = m
in_metas (f ∷ files) n (inl same) = inl same
in_metas (f ∷ files) n (inr m) = inr (in_metas files n m)

-- a number of some levels is one of a level
at_level : (of : ℕ → List ℕ) (level k n : ℕ) → IsOneOf (by_level of level k) n → (l : ℕ) × IsOneOf (of l) n
at_level of level zero n m = absurd m
at_level of level (suc k) n m = elim (among_append (of level) (by_level of (level + 1) k) n m) [ inl a ↦ (level, a) | inr b ↦ at_level of (level + 1) k n b ]

by_test : (b : Bool) (P : Type 0) → (b ≡ true → P) → (b ≡ true) ⊎ (b ≡ false)
by_test true P h = inl refl
by_test false P h = inr refl

pub is_itself : (n : ℕ) → nat_eq n n ≡ true
is_itself n = grind arith

-- a number of a level is one of the levels
pub of_levels : (of : ℕ → List ℕ) (level k l n : ℕ) → level ≤ l → l < level + k → IsOneOf (of l) n → IsOneOf (by_level of level k) n
of_levels of level zero l n low high m = absurd (omega arith)
of_levels of level (suc k) l n low high m = elim (by_test (nat_eq level l) (level ≡ l) (eqb-true level l)) [
  | inl same ↦ among_first (of level) (by_level of (level + 1) k) n (subst (λ (j : ℕ). IsOneOf (of j) n) (sym (eqb-true level l same)) m)
  | inr other ↦
      let apart : level ≡ l → ⊥ = λ is. let both : nat_eq level l ≡ true = subst (λ (j : ℕ). nat_eq level j ≡ true) is (is_itself level) in cc (both, other) in
      among_second (of level) (by_level of (level + 1) k) n (of_levels of (level + 1) k l n (omega (arith, apart)) (omega arith) m)
]

-- a file's number is one of its level
with_level : (files : List NewFile) (n : ℕ) → All (λ (f : NewFile). f.level ≤ 6) files → IsOneOf (numbers_in files) n → (l : ℕ) × (l ≤ 6) × IsOneOf (numbers_in (filter (λ (f : NewFile). nat_eq f.level l) files)) n
with_level [] n h m = absurd m
with_level (f ∷ files) n h (inl same) =
    (f.level, All-head (λ (f : NewFile). f.level ≤ 6) f files h, left_first (λ (f : NewFile). f.meta.number) (nat_eq f.level f.level) f (filter (λ (g : NewFile). nat_eq g.level f.level) files) n (is_itself f.level) same)
with_level (f ∷ files) n h (inr m) =
    let rest = with_level files n (All-tail (λ (f : NewFile). f.level ≤ 6) f files h) m in
    (rest.0, rest.1, left_behind (λ (f : NewFile). f.meta.number) (nat_eq f.level rest.0) f (filter (λ (g : NewFile). nat_eq g.level rest.0) files) n rest.2)

second_equal : (o p : Ordering) → ordering_then o p ≡ Equal → p ≡ Equal
second_equal Less p e = absurd (cc e)
second_equal Equal p e = e
second_equal Greater p e = absurd (cc e)

tied : (cmp : List ℕ → List ℕ → Ordering) (a b : FileMeta) → file_cmp cmp a b ≡ Equal → number_of a ≡ number_of b
tied cmp a b e = eqb-true a.number b.number (sym (is_eq-nat_cmp a.number b.number) ∙ ap is_eq (second_equal (internal_cmp cmp a.smallest b.smallest) (nat_cmp a.number b.number) e))

-- the numbers of a version are those of its files
pub in_files : (cmp : List ℕ → List ℕ → Ordering) (v : State) (n : ℕ) → IsOneOf (file_numbers cmp v) n → IsOneOf (numbers_in v.files) n
in_files cmp v n m =
    let l = at_level (numbers_at cmp v) 0 7 n m in
    elim (from_order number_of (file_cmp cmp) [] (files_at v.files l.0) n l.1) [
      | inl none' ↦ absurd none'
      | inr b ↦ filtered (λ (f : NewFile). f.meta.number) (λ (f : NewFile). nat_eq f.level l.0) v.files n (metas_in (filter (λ (f : NewFile). nat_eq f.level l.0) v.files) n b)
    ]

pub in_version : (cmp : List ℕ → List ℕ → Ordering) (v : State) (n : ℕ) → All (λ (f : NewFile). f.level ≤ 6) v.files → IsOneOf (numbers_in v.files) n → IsOneOf (file_numbers cmp v) n
in_version cmp v n low m =
    let l = with_level v.files n low m in
    of_levels (numbers_at cmp v) 0 7 l.0 n (omega arith) (omega (arith, l.1))
    (to_order number_of (file_cmp cmp) (tied cmp) [] (files_at v.files l.0) n (inr (in_metas (filter (λ (f : NewFile). nat_eq f.level l.0) v.files) n l.2)))

pub some_value : {A : Type 0} (b : Bool) (x y : A) → (if b then Some x else None) ≡ Some y → x ≡ y
some_value true x y h = cc h
some_value false x y h = absurd (cc h)

-- a file after an edit was there, or is new
pub after_edit : (v next : State) (e : Edit) → applied v e ≡ Some next → (n : ℕ) → IsOneOf (numbers_in next.files) n → IsOneOf (numbers_in e.added) n ⊎ IsOneOf (numbers_in v.files) n
after_edit v next e h n m =
    let parts = option_parts (made v e) (files_after v.files e.deleted e.added) next h in
    let left = undeleted_files e.deleted v.files in
    let files : next.files ≡ fold (insert_key number_cmp) left e.added =
    sym (ap (λ (s : State). s.files) parts.2) ∙ sym (some_value (list_all (has_place v.files) e.deleted && are_new left e.added) (fold (insert_key number_cmp) left e.added) parts.0 parts.1) in
    elim (from_order (λ (f : NewFile). f.meta.number) number_cmp left e.added n (subst (λ (fs : List NewFile). IsOneOf (numbers_in fs) n) files m)) [
      | inl a ↦ inr (filtered (λ (f : NewFile). f.meta.number) (λ (f : NewFile). not (is_deleted e.deleted f)) v.files n a)
      | inr b ↦ inl b
    ]

-- all have numbers of 64 bits
abbrev AreSmall : List NewFile → Type 0
AreSmall files = (n : ℕ) → IsOneOf (numbers_in files) n → n < 2 ^ 64

among_more : (files : List NewFile) (f : NewFile) (n : ℕ) → IsOneOf (numbers_in (files ++ f ∷ [])) n → IsOneOf (numbers_in files) n ⊎ (n ≡ f.meta.number)
among_more [] f n (inl same) = inr same
among_more [] f n (inr m) = absurd m
among_more (g ∷ files) f n (inl same) = inl (inl same)
among_more (g ∷ files) f n (inr m) = elim (among_more files f n m) [ inl a ↦ inl (inr a) | inr b ↦ inr b ]

small_field : (e : Edit) (field : Field) → IsField field → AreSmall e.added → AreSmall (with_field e field).added
small_field e (SetComparator name) is h = h
small_field e (SetLogNumber number) is h = h
small_field e (SetPreviousLog number) is h = h
small_field e (SetNextFile number) is h = h
small_field e (SetLastSequence number) is h = h
small_field e (SetPointer pointer) is h = h
small_field e (DeleteFile file) is h = h
small_field e (AddFile file) is h = λ n m. elim (among_more e.added file n m) [ inl a ↦ h n a | inr same ↦ subst (λ (k : ℕ). k < 2 ^ 64) (sym same) is.1 ]

small_fields : (fields : List Field) (e : Edit) → AllByRecursion IsField fields → AreSmall e.added → AreSmall (fold with_field e fields).added
small_fields [] e are h = h
small_fields (f ∷ fields) e are h = small_fields fields (with_field e f) are.1 (small_field e f are.0 h)

-- the numbers of an edit's new files have 64 bits
pub small_added : (bytes : List ℕ) (e : Edit) → IsEdit bytes e → AreSmall e.added
small_added bytes e h = subst (λ (x : Edit). AreSmall x.added) h.sets (small_fields h.fields empty_edit h.lawful (λ n m. absurd m))
