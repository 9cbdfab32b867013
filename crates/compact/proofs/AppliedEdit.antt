-- The edit of a compaction applies, and makes the version that it says.
use Rattle.std.proofs.Common.{◌≡◌, ℕ, ◌+◌, ◌<◌, ◌≤◌, Bool, true, false, not, ◌&&◌, cond, if◌then◌else◌, eqb, List, [], ◌∷◌, ◌++◌, length, map, refl, sym, ap, subst, ◌∙◌, inl, inr, Some, None, arith}
use Rattle.std.specs.Prelude.{◌⊎◌, Contains}
use Rattle.std.specs.List.{filter, list_any, list_all, fold, AllByRecursion, IsDistinct}
use Rattle.std.specs.List.Sorted.{IsPermutation}
use Rattle.std.specs.Option.{ForSome, option_map, option_or}
use Rattle.std.specs.Ordering.{nat_cmp, ordering_then, match_ordering}
use Rattle.std.specs.BTreeSet.{insert_key}
use Rattle.std.specs.Cmp.{IsTotalOrder}
use Rattle.std.specs.declared.cmp.Ordering.{Ordering}
use Rattle.std.specs.declared.cmp.Ordering.TheVariants.{Less, Equal, Greater}
use Rattle.std.proofs.lemmas.Bool.{eqb-true, eq-eqb}
use Rattle.std.proofs.lemmas.List.{length-map}
use Rattle.std.proofs.lemmas.List.Elements.{Contains-append_cases}
use Rattle.std.proofs.lemmas.List.Sorted.{Contains-permutation, IsPermutation-sym}
use Rattle.std.proofs.lemmas.Map.Keys.{IsDistinct-IsPermutation}
use Rattle.std.proofs.lemmas.Option.{none-some, same_Some}
use Rattle.edit.specs.Edit.{Edit, deleted_cmp}
use Rattle.edit.specs.Version.{State, applied, place_of, is_same_place, is_deleted, undeleted_files, has_place, has_number, are_apart, are_new, number_cmp, with_file, with_pointer}
use Rattle.edit.specs.declared.meta.FileMeta.{FileMeta}
use Rattle.edit.specs.declared.meta.NewFile.{NewFile}
use Rattle.edit.specs.declared.meta.DeletedFile.{DeletedFile}
use Rattle.edit.proofs.Applied.{after_is}
use Rattle.edit.proofs.Inserted.{all_permute}
use Rattle.edit.proofs.Kept.{apart_filter}
use Rattle.edit.proofs.RisingFiles.{same_file, number_total, same_turned, tied_same, distinct_apart}
use Rattle.edit.proofs.Tested.{both_true, both_false, not_is_true}
use Rattle.pick.specs.PickedInputs.{PickedInputs}
use Rattle.pick.specs.declared.picked_inputs.InputFile.{InputFile}
use Rattle.pick.proofs.Lists.{and_both, and_second, same_test}
use Rattle.reads.specs.Lawful.{IsLawful}
use Rattle.reads.specs.Tables.{NumberedContents}
use Rattle.reads.proofs.Members.{first_or_later, later_in, first_in, none_in, from_filter, in_map, from_map}
use Rattle.reads.proofs.Orders.{equal_is}
use Rattle.compact.specs.ClosedInputs.{is_input}
use Rattle.compact.proofs.Closing.{any_at}
use Rattle.compact.specs.OutputTables.{Output}
use Rattle.compact.specs.Request.{RequestView}
use Rattle.compact.specs.EditOf.{deletion_of, deletions_of, edit_of, new_file, new_files}
use Rattle.compact.specs.GetsAfter.{staying_files}
use Rattle.compact.specs.EditAfter.{version_after, AreNumberedFrom, EditApplies}
use Rattle.compact.proofs.VersionInputs.{AreOfVersion, any_passes, input_file, input_of, is_one, level_of_input, below_first}

-- ---- elements put in at their places, in an order in which those that tie are one

module _ {A : Type 0} (R : A → A → Ordering) (ties : (x y : A) → R x y ≡ Equal → x ≡ y) where
  put_there : (ks : List A) (k : A) → Contains (insert_key R ks k) k
  put_there [] k = first_in k []
  put_there (x ∷ xs) k = by_order (R k x) refl (put_there xs k)
    where
      by_order : (o : Ordering) → R k x ≡ o → Contains (insert_key R xs k) k → Contains (match_ordering o (k ∷ x ∷ xs) (x ∷ xs) (x ∷ insert_key R xs k)) k
      by_order Less e rest = first_in k (x ∷ xs)
      by_order Equal e rest = subst (λ (y : A). Contains (x ∷ xs) y) (sym (ties k x e)) (first_in x xs)
      by_order Greater e rest = later_in x (insert_key R xs k) k rest

  put_keeps : (ks : List A) (k q : A) → Contains ks q → Contains (insert_key R ks k) q
  put_keeps [] k q at = absurd (none_in q at)
  put_keeps (x ∷ xs) k q at = by_order (R k x) (first_or_later x xs q at) (put_keeps xs k q)
    where
      by_order : (o : Ordering) → (q ≡ x) ⊎ Contains xs q → (Contains xs q → Contains (insert_key R xs k) q) → Contains (match_ordering o (k ∷ x ∷ xs) (x ∷ xs) (x ∷ insert_key R xs k)) q
      by_order Less place rest = later_in k (x ∷ xs) q at
      by_order Equal place rest = at
      by_order Greater (inl same) rest = subst (λ (y : A). Contains (x ∷ insert_key R xs k) y) (sym same) (first_in x (insert_key R xs k))
      by_order Greater (inr later) rest = later_in x (insert_key R xs k) q (rest later)

  put_only : (ks : List A) (k q : A) → Contains (insert_key R ks k) q → (q ≡ k) ⊎ Contains ks q
  put_only [] k q at = elim (first_or_later k [] q at) [ inl same ↦ inl same | inr later ↦ inr later ]
  put_only (x ∷ xs) k q at = by_order (R k x) at (put_only xs k q)
    where
      by_order : (o : Ordering) → Contains (match_ordering o (k ∷ x ∷ xs) (x ∷ xs) (x ∷ insert_key R xs k)) q → (Contains (insert_key R xs k) q → (q ≡ k) ⊎ Contains xs q) → (q ≡ k) ⊎ Contains (x ∷ xs) q
      by_order Less i rest = first_or_later k (x ∷ xs) q i
      by_order Equal i rest = inr i
      by_order Greater i rest =
          elim (first_or_later x (insert_key R xs k) q i) [
            | inl same ↦ inr (subst (λ (y : A). Contains (x ∷ xs) y) (sym same) (first_in x xs))
            | inr later ↦ elim (rest later) [ inl own ↦ inl own | inr j ↦ inr (later_in x xs q j) ]
          ]

  all_keep : (done ks : List A) (q : A) → Contains done q → Contains (fold (insert_key R) done ks) q
  all_keep done [] q at = at
  all_keep done (k ∷ ks) q at = all_keep (insert_key R done k) ks q (put_keeps done k q at)

  pub all_there : (done ks : List A) (q : A) → Contains ks q → Contains (fold (insert_key R) done ks) q
  all_there done [] q at = absurd (none_in q at)
  all_there done (k ∷ ks) q at =
      elim (first_or_later k ks q at) [
        | inl same ↦ all_keep (insert_key R done k) ks q (subst (λ (y : A). Contains (insert_key R done k) y) (sym same) (put_there done k))
        | inr later ↦ all_there (insert_key R done k) ks q later
      ]

  pub all_only : (done ks : List A) (q : A) → Contains (fold (insert_key R) done ks) q → Contains done q ⊎ Contains ks q
  all_only done [] q at = inl at
  all_only done (k ∷ ks) q at =
      elim (all_only (insert_key R done k) ks q at) [
        | inl i ↦ elim (put_only done k q i) [ inl own ↦ inr (subst (λ (y : A). Contains (k ∷ ks) y) (sym own) (first_in k ks)) | inr j ↦ inl j ]
        | inr i ↦ inr (later_in k ks q i)
      ]

same_number : (m n : ℕ) → nat_cmp m n ≡ Equal → m ≡ n
same_number m n h = equal_is m n h

deleted_ties : (a b : DeletedFile) → deleted_cmp a b ≡ Equal → a ≡ b
deleted_ties a b h = by_level (nat_cmp a.level b.level) refl h
  where
    by_level : (o : Ordering) → nat_cmp a.level b.level ≡ o → ordering_then o (nat_cmp a.number b.number) ≡ Equal → a ≡ b
    by_level Less e t = absurd cc
    by_level Equal e t = let levels = same_number a.level b.level e in let numbers = same_number a.number b.number t in ap (λ (l : ℕ). record { level = l; number = a.number }) levels ∙ ap (λ (n : ℕ). record { level = b.level; number = n }) numbers
    by_level Greater e t = absurd cc

-- ---- filters

pub filter_same : {X : Type 0} (p q : X → Bool) (xs : List X) → ((x : X) → Contains xs x → p x ≡ q x) → filter p xs ≡ filter q xs
filter_same p q [] h = refl
filter_same p q (x ∷ xs) h =
    let rest = filter_same p q xs (λ y at. h y (later_in x xs y at)) in
    ap (λ (b : Bool). cond b (x ∷ filter p xs) (filter p xs)) (h x (first_in x xs)) ∙ ap (λ (ys : List _). cond (q x) (x ∷ ys) ys) rest

pub all_tests : {X : Type 0} (p : X → Bool) (xs : List X) → ((x : X) → Contains xs x → p x ≡ true) → list_all p xs ≡ true
all_tests p [] h = refl
all_tests p (x ∷ xs) h = and_both (p x) (list_all p xs) (h x (first_in x xs)) (all_tests p xs (λ y at. h y (later_in x xs y at)))

pub none_tests : {X : Type 0} (p : X → Bool) (xs : List X) → ((x : X) → Contains xs x → p x ≡ false) → list_any p xs ≡ false
none_tests p [] h = refl
none_tests p (x ∷ xs) h = rw (h x (first_in x xs)) (none_tests p xs (λ y at. h y (later_in x xs y at)))

pub none_of : {X : Type 0} (p : X → Bool) (xs : List X) → list_any p xs ≡ false → (x : X) → Contains xs x → p x ≡ false
none_of p [] h x at = absurd (none_in x at)
none_of p (y ∷ xs) h x at =
    let b = both_false (p y) (list_any p xs) h in
    elim (first_or_later y xs x at) [ inl same ↦ ap p same ∙ b.0 | inr later ↦ none_of p xs b.1 x later ]

-- ---- the numbers of the outputs

pub numbered_from : (first : ℕ) (outputs : List Output) → AreNumberedFrom first outputs → (q : Output) → Contains outputs q → first ≤ q.number
numbered_from first [] h q at = absurd (none_in q at)
numbered_from first (p ∷ ps) h q at =
    elim (first_or_later p ps q at) [
      | inl same ↦ (let is : q.number ≡ first = ap (λ (x : Output). x.number) same ∙ h.0 in omega (arith, is))
      | inr later ↦ (let le = numbered_from (first + 1) ps h.1 q later in omega (arith, le))
    ]

pub numbered_to : (first : ℕ) (outputs : List Output) → AreNumberedFrom first outputs → (q : Output) → Contains outputs q → q.number < first + length outputs
numbered_to first [] h q at = absurd (none_in q at)
numbered_to first (p ∷ ps) h q at =
    elim (first_or_later p ps q at) [
      | inl same ↦ (let is : q.number ≡ first = ap (λ (x : Output). x.number) same ∙ h.0 in omega (arith, is))
      | inr later ↦ (let lt = numbered_to (first + 1) ps h.1 q later in omega (arith, lt))
    ]

pub not_equal : (m n : ℕ) → (m ≡ n → ⊥) → eqb m n ≡ false
not_equal m n h = by (eqb m n) refl
  where
    by : (b : Bool) → eqb m n ≡ b → b ≡ false
    by true e = absurd (h (eqb-true m n e))
    by false e = refl

other_numbers : (level number : ℕ) (outputs : List Output) → ((q : Output) → Contains outputs q → q.number ≡ number → ⊥) → has_number (map (new_file level) outputs) number ≡ false
other_numbers level number outputs h =
    none_tests (λ (f : NewFile). eqb number f.meta.number) (map (new_file level) outputs)
    (λ f at. let x = from_map (new_file level) outputs f at in
    not_equal number f.meta.number (λ same. h x.source x.there (ap (λ (g : NewFile). g.meta.number) x.is ∙ sym same)))

new_apart : (level first : ℕ) (outputs : List Output) → AreNumberedFrom first outputs → are_apart (map (new_file level) outputs) ≡ true
new_apart level first [] h = refl
new_apart level first (p ∷ ps) h =
    let other : has_number (map (new_file level) ps) p.number ≡ false = other_numbers level p.number ps (λ q at same.
    let le = numbered_from (first + 1) ps h.1 q at in let is : p.number ≡ first = h.0 in omega (arith, le, is, same)) in
    rw other (new_apart level (first + 1) ps h.1)

-- ---- files of which no two have one number

none_has : (f : NewFile) (files : List NewFile) → has_number files f.meta.number ≡ false → AllByRecursion (λ g. same_file f g ≡ false) files
none_has f [] h = tt
none_has f (g ∷ files) h = let b = both_false (eqb f.meta.number g.meta.number) (has_number files f.meta.number) h in (b.0, none_has f files b.1)

pub apart_distinct : (files : List NewFile) → are_apart files ≡ true → IsDistinct same_file files
unfolding IsDistinct
apart_distinct [] h = tt
apart_distinct (f ∷ files) h =
    let a = both_true (not (has_number files f.meta.number)) (are_apart files) h in
    (none_has f files (not_is_true (has_number files f.meta.number) a.0), apart_distinct files a.1)

distinct_two : (xs ys : List NewFile) → IsDistinct same_file xs → IsDistinct same_file ys → ((f g : NewFile) → Contains xs f → Contains ys g → same_file f g ≡ false) → IsDistinct same_file (xs ++ ys)
unfolding IsDistinct
distinct_two [] ys hx hy h = hy
distinct_two (x ∷ xs) ys hx hy h = (
  all_two xs hx.0,
  distinct_two xs ys hx.1 hy (λ f g i j. h f g (later_in x xs f i) j),
)
  where
    all_behind : (zs : List NewFile) → ((g : NewFile) → Contains zs g → same_file x g ≡ false) → AllByRecursion (λ g. same_file x g ≡ false) zs
    all_behind [] k = tt
    all_behind (z ∷ zs) k = (k z (first_in z zs), all_behind zs (λ g i. k g (later_in z zs g i)))

    all_two : (zs : List NewFile) → AllByRecursion (λ g. same_file x g ≡ false) zs → AllByRecursion (λ g. same_file x g ≡ false) (zs ++ ys)
    all_two [] k = all_behind ys (λ g j. h x g (first_in x xs) j)
    all_two (z ∷ zs) k = (k.0, all_two zs k.1)

-- no two files have one number, if new ones are new to files that are apart
pub apart_new : (files added : List NewFile) → are_apart files ≡ true → are_new files added ≡ true → IsDistinct same_file (files ++ added)
apart_new files added apart new =
    let both = both_true (are_apart added) (not (list_any (λ (f : NewFile). has_number added f.meta.number) files)) new in
    distinct_two files added (apart_distinct files apart) (apart_distinct added both.0)
    (λ f g i j. none_of (λ (h : NewFile). eqb f.meta.number h.meta.number) added
    (none_of (λ (h : NewFile). has_number added h.meta.number) files (not_is_true (list_any (λ (h : NewFile). has_number added h.meta.number) files) both.1) f i) g j)

-- new files are put in by number
pub permuted_new : (files added : List NewFile) → IsDistinct same_file (files ++ added) → IsPermutation (files ++ added) (fold with_file files added)
permuted_new files added apart = all_permute number_cmp number_total same_file same_turned tied_same files added apart

-- a new file that is an output
abbrev pub IsOutputOf : ℕ → List Output → NewFile → Type 0
IsOutputOf level outputs f = (q : Output) × Contains outputs q × (new_file level q ≡ f)

-- each file after is one that was there, or an output
pub side_of : (level : ℕ) (files : List NewFile) (outputs : List Output) (after : List NewFile) → IsPermutation (files ++ map (new_file level) outputs) after → (f : NewFile) → Contains after f → Contains files f ⊎ IsOutputOf level outputs f
side_of level files outputs after moves f at =
    elim (Contains-append_cases files (map (new_file level) outputs) f (Contains-permutation after (files ++ map (new_file level) outputs) f (IsPermutation-sym (files ++ map (new_file level) outputs) after moves) at)) [
      | inl i ↦ inl i
      | inr i ↦ (let x = from_map (new_file level) outputs f i in inr (x.source, x.there, x.is))
    ]

-- what an edit that applies makes: its new files are new to those that it doesn't delete, and are put in among them
pub record IsMade (v : State) (e : Edit) (after : State) : Type 0 where
  pub new : are_new (undeleted_files e.deleted v.files) e.added ≡ true
  pub files : fold with_file (undeleted_files e.deleted v.files) e.added ≡ after.files

-- the version that an edit makes of these files
abbrev with_files : State → Edit → List NewFile → State
with_files v e files = record {
  log_number = option_or e.log_number v.log_number;
  previous_log = option_or e.previous_log v.previous_log;
  next_file = option_or e.next_file v.next_file;
  last_sequence = option_or e.last_sequence v.last_sequence;
  pointers = fold with_pointer v.pointers e.pointers;
  files = files;
}

made_if : (a b : Bool) (files : List NewFile) (f : List NewFile → State) (next : State) → option_map f (if a && b then Some files else None) ≡ Some next → (b ≡ true) × (f files ≡ next)
made_if true true files f next h = (refl, same_Some (f files) next h)
made_if true false files f next h = absurd (none-some next h)
made_if false b files f next h = absurd (none-some next h)

pub is_made : (v : State) (e : Edit) (after : State) → applied v e ≡ Some after → IsMade v e after
is_made v e after h =
    let made = made_if (list_all (has_place v.files) e.deleted) (are_new (undeleted_files e.deleted v.files) e.added) (fold with_file (undeleted_files e.deleted v.files) e.added) (with_files v e) after h in
    record { new = made.0; files = ap (λ (s : State). s.files) made.1 }

-- no two files after have one number
pub made_apart : (v : State) (e : Edit) (after : State) → are_apart v.files ≡ true → applied v e ≡ Some after → are_apart after.files ≡ true
made_apart v e after apart h =
    let made = is_made v e after h in
    let left = undeleted_files e.deleted v.files in
    let distinct = apart_new left e.added (apart_filter (λ (f : NewFile). not (is_deleted e.deleted f)) v.files apart) made.new in
    subst (λ (fs : List NewFile). are_apart fs ≡ true) made.files
    (distinct_apart (fold with_file left e.added) (IsDistinct-IsPermutation same_file same_turned (left ++ e.added) (fold with_file left e.added) (permuted_new left e.added distinct) distinct))

module _ (cmp : List ℕ → List ℕ → Ordering) (total : IsTotalOrder cmp) (v : State) (tables : List NumberedContents) (p : PickedInputs) (lawful : IsLawful cmp v tables) (placed : AreOfVersion v p) where
  abbrev files : List InputFile
  files = p.files

  -- each deletion is that of an input
  pub from_deletions : (d : DeletedFile) → Contains (deletions_of files) d → (i : InputFile) × Contains files i × (deletion_of i ≡ d)
  from_deletions d at =
      elim (all_only deleted_cmp deleted_ties [] (map deletion_of files) d at) [
        | inl none ↦ absurd (none_in d none)
        | inr i ↦ (let x = from_map deletion_of files d i in (x.source, x.there, x.is))
      ]

  into_deletions : (i : InputFile) → Contains files i → Contains (deletions_of files) (deletion_of i)
  into_deletions i at = all_there deleted_cmp deleted_ties [] (map deletion_of files) (deletion_of i) (in_map deletion_of files i at)

  pub deleted_there : list_all (has_place v.files) (deletions_of files) ≡ true
  deleted_there = all_tests (has_place v.files) (deletions_of files) each
    where
      each : (d : DeletedFile) → Contains (deletions_of files) d → has_place v.files d ≡ true
      each d at =
          let x = from_deletions d at in
          let f = placed x.0 x.1 in
          let levels : f.file.level ≡ d.level = f.stands ∙ ap (λ (y : DeletedFile). y.level) x.2 in
          let numbers : f.file.meta.number ≡ d.number = ap (λ (m : FileMeta). m.number) f.is ∙ ap (λ (y : DeletedFile). y.number) x.2 in
          any_at (λ (g : NewFile). is_same_place (place_of g) d) v.files f.file f.there
          (and_both (eqb f.file.level d.level) (eqb f.file.meta.number d.number) (eq-eqb f.file.level d.level levels) (eq-eqb f.file.meta.number d.number numbers))

  same_tests : (f : NewFile) → Contains v.files f → is_deleted (deletions_of files) f ≡ is_input p f.meta.number
  same_tests f at = same_test (is_deleted (deletions_of files) f) (is_input p f.meta.number) to back
    where
      to : is_deleted (deletions_of files) f ≡ true → is_input p f.meta.number ≡ true
      to h =
          let x = any_passes (is_same_place (place_of f)) (deletions_of files) h in
          let i = from_deletions x.item x.there in
          let number : f.meta.number ≡ x.item.number = eqb-true f.meta.number x.item.number (and_second (eqb f.level x.item.level) (eqb f.meta.number x.item.number) x.passes) in
          is_one p i.0 f.meta.number i.1 (ap (λ (y : DeletedFile). y.number) i.2 ∙ sym number)

      back : is_input p f.meta.number ≡ true → is_deleted (deletions_of files) f ≡ true
      back h =
          let i = input_of p f.meta.number h in
          let stands : f.level ≡ i.input.level = level_of_input v lawful.apart p placed f at i.input i.there i.number_is in
          any_at (is_same_place (place_of f)) (deletions_of files) (deletion_of i.input) (into_deletions i.input i.there)
          (and_both (eqb f.level i.input.level) (eqb f.meta.number i.input.meta.number) (eq-eqb f.level i.input.level stands) (eq-eqb f.meta.number i.input.meta.number (sym i.number_is)))

  -- just the inputs are deleted
  pub kept_are : undeleted_files (deletions_of files) v.files ≡ staying_files v p
  kept_are = filter_same (λ (f : NewFile). not (is_deleted (deletions_of files) f)) (λ (f : NewFile). not (is_input p f.meta.number)) v.files (λ f at. ap not (same_tests f at))

  pub stays_there : (f : NewFile) → Contains (staying_files v p) f → Contains v.files f
  stays_there f at = (from_filter (λ (g : NewFile). not (is_input p g.meta.number)) v.files f at).0

  pub staying_apart : are_apart (staying_files v p) ≡ true
  staying_apart = apart_filter (λ (f : NewFile). not (is_input p f.meta.number)) v.files lawful.apart

module _ (cmp : List ℕ → List ℕ → Ordering) (total : IsTotalOrder cmp) (v : State) (tables : List NumberedContents) (r : RequestView) (outputs : List Output)
    (lawful : IsLawful cmp v tables) (placed : AreOfVersion v r.picked) (high : ForSome v.next_file (λ next. next ≤ r.first_number)) (numbered : AreNumberedFrom r.first_number outputs) where
  staying : undeleted_files (deletions_of r.picked.files) v.files ≡ staying_files v r.picked
  staying = kept_are cmp total v tables r.picked lawful placed

  -- no file that is there has the number of an output
  no_clash : (f : NewFile) → Contains v.files f → has_number (new_files r outputs) f.meta.number ≡ false
  no_clash f at =
      let lt = below_first cmp v tables lawful r.first_number high f at in
      other_numbers (r.picked.level + 1) f.meta.number outputs (λ q i same. let le = numbered_from r.first_number outputs numbered q i in omega (arith, le, lt, same))

  new : are_new (staying_files v r.picked) (new_files r outputs) ≡ true
  new =
      let none : list_any (λ (f : NewFile). has_number (new_files r outputs) f.meta.number) (staying_files v r.picked) ≡ false =
      none_tests (λ (f : NewFile). has_number (new_files r outputs) f.meta.number) (staying_files v r.picked) (λ f at. no_clash f (stays_there cmp total v tables r.picked lawful placed f at)) in
      and_both (are_apart (new_files r outputs)) (not (list_any (λ (f : NewFile). has_number (new_files r outputs) f.meta.number) (staying_files v r.picked)))
      (new_apart (r.picked.level + 1) r.first_number outputs numbered) (ap not none)

  pub edited : applied v (edit_of r (new_files r outputs)) ≡ Some (version_after v r outputs)
  edited =
      rw (after_is v.files (deletions_of r.picked.files) (new_files r outputs) (deleted_there cmp total v tables r.picked lawful placed)
      (subst (λ (l : List NewFile). are_new l (new_files r outputs) ≡ true) (sym staying) new))
      (ap (λ (l : List NewFile). Some (with_these (length (new_files r outputs)) (fold with_file l (new_files r outputs)))) staying
      ∙ ap (λ (n : ℕ). Some (with_these n (fold with_file (staying_files v r.picked) (new_files r outputs)))) (length-map outputs (new_file (r.picked.level + 1))))
    where
      with_these : ℕ → List NewFile → State
      with_these n l = record (version_after v r outputs) { next_file = Some (r.first_number + n); files = l }

  pub files_are : IsPermutation (staying_files v r.picked ++ new_files r outputs) (version_after v r outputs).files
  files_are =
      permuted_new (staying_files v r.picked) (new_files r outputs)
      (apart_new (staying_files v r.picked) (new_files r outputs) (staying_apart cmp total v tables r.picked lawful placed) new)

pub edit_applies : (cmp : List ℕ → List ℕ → Ordering) → IsTotalOrder cmp → EditApplies cmp
edit_applies cmp total = record {
  applies = λ v tables level r outputs lawful picked high numbered. edited cmp total v tables r outputs lawful (input_file cmp total v tables lawful level r.picked picked) high numbered;
  files = λ v tables level r outputs lawful picked high numbered. files_are cmp total v tables r outputs lawful (input_file cmp total v tables lawful level r.picked picked) high numbered;
}
