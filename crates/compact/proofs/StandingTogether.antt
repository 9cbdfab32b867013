-- Among the entries of a user key in a lawful version, those of the inputs are together.
use Rattle.std.proofs.Common.{◌≡◌, ℕ, ◌+◌, ◌-◌, ◌<◌, ◌≤◌, Bool, true, false, not, eqb, ◌||◌, List, [], ◌∷◌, ◌++◌, refl, sym, ap, subst, ◌∙◌, inl, inr, arith, zero-add, append_assoc, append-nil}
use Rattle.std.specs.Prelude.{◌⊎◌, Contains}
use Rattle.std.specs.List.{All, filter, flat_map, list_any}
use Rattle.std.specs.Cmp.{IsTotalOrder}
use Rattle.std.specs.declared.cmp.Ordering.{Ordering}
use Rattle.std.proofs.lemmas.Bool.{cases_lt}
use Rattle.std.proofs.lemmas.Bool.Decides.{Decides-eqb}
use Rattle.std.proofs.lemmas.List.Elements.{All-contains, Contains-append_left, Contains-append_right, Contains-append_cases}
use Rattle.ikey.specs.Key.{user_of}
use Rattle.table.specs.EncodedEntry.{Entry}
use Rattle.edit.specs.Version.{State}
use Rattle.edit.specs.declared.meta.FileMeta.{FileMeta}
use Rattle.edit.specs.declared.meta.NewFile.{NewFile}
use Rattle.pick.specs.declared.picked_inputs.InputFile.{InputFile}
use Rattle.pick.specs.PickedInputs.{PickedInputs}
use Rattle.pick.specs.Ranges.{is_in_none}
use Rattle.pick.proofs.Lists.{cases, false_true}
use Rattle.reads.specs.Lawful.{IsLawful, AreNewer}
use Rattle.reads.specs.NewestFirst.{SequencesFall, AreOf, AreThoseOf}
use Rattle.reads.specs.Tables.{NumberedContents, table_entries, all_entries}
use Rattle.reads.proofs.FallingEntries.{of_each, answers_newest_first}
use Rattle.reads.proofs.Members.{first_in, later_in, in_filter, from_filter, in_flat_map, from_flat_map}
use Rattle.reads.proofs.Newer.{newer_at}
use Rattle.compact.specs.ClosedInputs.{is_input, AreClosed}
use Rattle.compact.specs.InputsTogether.{files_read, entries_read, files_above, files_taken, files_below, StandTogether, InputsStandTogether}
use Rattle.compact.proofs.Closing.{any_at, same_itself}
use Rattle.compact.proofs.SafeInputs.{AreSafe, picked_safe}
use Rattle.compact.proofs.FallingOrder.{is_of, of_user, user_is, read_falls}
use Rattle.compact.proofs.Parting.{from_read, read-append, nothing_in, parted}
use Rattle.compact.proofs.ReadOrder.{IsNewer, of_read, into_read, at_read, read_order, read_split}

-- an element that passes a test
record Found {A : Type 0} (test : A → Bool) (xs : List A) : Type 0 where
  element : A
  there : Contains xs element
  passes : test element ≡ true

found_later : {A : Type 0} (test : A → Bool) (x : A) (xs : List A) → Found test xs → Found test (x ∷ xs)
found_later test x xs h = record { element = h.element; there = later_in x xs h.element h.there; passes = h.passes }

found_by : {A : Type 0} (test : A → Bool) (x : A) (xs : List A) (b : Bool) → test x ≡ b → (list_any test (x ∷ xs) ≡ true → b ≡ false → Found test xs) → list_any test (x ∷ xs) ≡ true → Found test (x ∷ xs)
found_by test x xs true e rest h = record { element = x; there = first_in x xs; passes = e }
found_by test x xs false e rest h = found_later test x xs (rest h refl)

found : {A : Type 0} (test : A → Bool) (xs : List A) → list_any test xs ≡ true → Found test xs
found test [] h = absurd cc
found test (x ∷ xs) h = found_by test x xs (test x) refl (λ k e. found test xs (behind (test x) (list_any test xs) k e)) h
  where
    behind : (a b : Bool) → (a || b) ≡ true → a ≡ false → b ≡ true
    behind true b k e = absurd cc
    behind false b k e = k

not_first : (b : Bool) → not b ≡ true → b ≡ false
not_first true h = absurd cc
not_first false h = refl

module _ (cmp : List ℕ → List ℕ → Ordering) (total : IsTotalOrder cmp) (v : State) (tables : List NumberedContents) (p : PickedInputs) (user : List ℕ)
    (lawful : IsLawful cmp v tables) (low : All (λ (f : NewFile). f.level ≤ 6) v.files) (safe : AreSafe cmp v tables p) where
  closed : AreClosed cmp v tables p
  closed = safe.closed

  input_level : (i : InputFile) (at : Contains p.files i) → (safe.placed i at).file.level ≤ p.level + 1
  input_level i at = let same = (safe.placed i at).stands in let le = safe.levels i at in omega (arith, same, le)

  abbrev upto : List FileMeta
  upto = files_read cmp v 0 (p.level + 2)

  abbrev deep : List FileMeta
  deep = files_read cmp v (p.level + 2) (5 - p.level)

  abbrev above : List Entry
  above = entries_read tables user (files_above cmp v p)

  abbrev inputs : List Entry
  inputs = entries_read tables user (files_taken cmp v p)

  abbrev below : List Entry
  below = entries_read tables user (files_below cmp v p)

  abbrev held : List Entry
  held = flat_map (λ (i : InputFile). table_entries tables i.meta.number) p.files

  -- ---- the inputs

  -- a file whose number is an input's
  input_of : (number : ℕ) → is_input p number ≡ true → (i : InputFile) × Contains p.files i × (i.meta.number ≡ number)
  input_of number h =
      let x = found (λ (i : InputFile). eqb i.meta.number number) p.files h in
      (x.element, x.there, (Decides-eqb x.element.meta.number number).0 x.passes)

  -- a file of a deeper level has no entry of an input
  no_input : (f : NewFile) → Contains v.files f → p.level + 1 < f.level → (e : Entry) → Contains (table_entries tables f.meta.number) e → is_input p f.meta.number ≡ true → ⊥
  no_input f at deeper e held_by h =
      let i = input_of f.meta.number h in
      let g = safe.placed i.0 i.1 in
      let le = input_level i.0 i.1 in
      let above : g.file.level < f.level = omega (arith, le, deeper) in
      let number : f.meta.number ≡ g.file.meta.number = sym i.2 ∙ ap (λ (m : FileMeta). m.number) (sym g.is) in
      let also : Contains (table_entries tables g.file.meta.number) e = subst (λ (n : ℕ). Contains (table_entries tables n) e) number held_by in
      let lt = newer_at (table_entries tables g.file.meta.number) (table_entries tables f.meta.number) (lawful.newer_above g.file f g.there at (inl above)) e e also held_by refl in
      absurd (omega (arith, lt))

  -- ---- what is read

  abbrev taken : FileMeta → Bool
  taken m = is_input p m.number

  -- the file of the version that a file is which is read
  file_read : (n from : ℕ) (m : FileMeta) → Contains (files_read cmp v from n) m → (f : NewFile) × Contains v.files f × (f.meta ≡ m)
  file_read n from m at = let x = of_read cmp total v tables lawful n from m at in (x.at.file, x.at.there, x.at.is)

  upto_at : (f : NewFile) → Contains v.files f → f.level < p.level + 2 → Contains upto f.meta
  upto_at f at lt = into_read cmp total v tables lawful (p.level + 2) 0 f.level (omega arith) (omega arith) f.meta (at_read cmp total v tables lawful f at f.level refl)

  deep_at : (f : NewFile) → Contains v.files f → p.level + 2 ≤ f.level → Contains deep f.meta
  deep_at f at le =
      let six : f.level ≤ 6 = All-contains (λ (x : NewFile). x.level ≤ 6) v.files f low at in
      into_read cmp total v tables lawful (5 - p.level) (p.level + 2) f.level le (omega arith) f.meta (at_read cmp total v tables lawful f at f.level refl)

  -- an entry of a user key in files that are read
  into_entries : (files : List FileMeta) (m : FileMeta) (e : Entry) → Contains files m → Contains (table_entries tables m.number) e → user_of e.key ≡ user → Contains (entries_read tables user files) e
  into_entries files m e at held_by own =
      in_filter (is_of user) (flat_map (λ (k : FileMeta). table_entries tables k.number) files) e (user_is user e own) (in_flat_map (λ (k : FileMeta). table_entries tables k.number) files m e at held_by)

  -- ---- those of the inputs

  of_inputs : AreThoseOf user held inputs
  of_inputs = record {
    each = λ e at own.
        let from = from_flat_map (λ (i : InputFile). table_entries tables i.meta.number) p.files e at in
        let f = safe.placed from.source from.there in
        let le = input_level from.source from.there in
        let lt : f.file.level < p.level + 2 = omega (arith, le) in
        let there : Contains upto from.source.meta = subst (λ (m : FileMeta). Contains upto m) f.is (upto_at f.file f.there lt) in
        let is : taken from.source.meta ≡ true = any_at (λ (x : InputFile). eqb x.meta.number from.source.meta.number) p.files from.source from.there (same_itself from.source.meta.number) in
        into_entries (files_taken cmp v p) from.source.meta e (in_filter taken upto from.source.meta is there) from.held own;
    only = λ e at.
        let from = from_read tables user (files_taken cmp v p) e at in
        let kept = from_filter taken upto from.file from.there in
        let i = input_of from.file.number kept.1 in
        (in_flat_map (λ (x : InputFile). table_entries tables x.meta.number) p.files i.0 e i.1 (subst (λ (n : ℕ). Contains (table_entries tables n) e) (sym i.2) from.held), of_user user e from.own);
  }

  of_own : AreOf user inputs
  of_own = of_each (λ (e : Entry). user_of e.key ≡ user) inputs (λ e at. (of_inputs.only e at).1)

  -- ---- those of the files that stay

  abbrev stays : NewFile → Bool
  stays f = not (is_input p f.meta.number)

  abbrev others : List Entry
  others = all_entries tables (filter stays v.files)

  stay_each : (f : NewFile) (e : Entry) → Contains v.files f → is_input p f.meta.number ≡ false → Contains (table_entries tables f.meta.number) e → user_of e.key ≡ user → (f.level < p.level + 2) ⊎ (p.level + 2 ≤ f.level) → Contains (above ++ below) e
  stay_each f e at out held_by own (inl lt) =
      Contains-append_left above below e (into_entries (files_above cmp v p) f.meta e (in_filter (λ (m : FileMeta). not (taken m)) upto f.meta (ap not out) (upto_at f at lt)) held_by own)
  stay_each f e at out held_by own (inr le) = Contains-append_right above below e (into_entries (files_below cmp v p) f.meta e (deep_at f at le) held_by own)

  stay_only : (f : NewFile) (m : FileMeta) (e : Entry) → Contains v.files f → f.meta ≡ m → is_input p m.number ≡ false → Contains (table_entries tables m.number) e → Contains others e
  stay_only f m e at is out held_by =
      in_flat_map (λ (x : NewFile). table_entries tables x.meta.number) (filter stays v.files) f e
      (in_filter stays v.files f (ap (λ (k : FileMeta). not (is_input p k.number)) is ∙ ap not out) at) (subst (λ (k : FileMeta). Contains (table_entries tables k.number) e) (sym is) held_by)

  refuted : (b : Bool) → (b ≡ true → ⊥) → b ≡ false
  refuted true h = absurd (h refl)
  refuted false h = refl

  -- an entry below is of a file of a deeper level
  record IsDeep (e : Entry) : Type 0 where
    file : NewFile
    there : Contains v.files file
    deeper : p.level + 1 < file.level
    held_by : Contains (table_entries tables file.meta.number) e
    own : user_of e.key ≡ user

  from_below : (e : Entry) → Contains below e → IsDeep e
  from_below e at =
      let from = from_read tables user (files_below cmp v p) e at in
      let x = of_read cmp total v tables lawful (5 - p.level) (p.level + 2) from.file from.there in
      record {
        file = x.at.file;
        there = x.at.there;
        deeper = omega (arith, x.at.stands, x.low);
        held_by = subst (λ (k : FileMeta). Contains (table_entries tables k.number) e) (sym x.at.is) from.held;
        own = of_user user e from.own;
      }

  of_others : AreThoseOf user others (above ++ below)
  of_others = record {
    each = λ e at own.
        let from = from_flat_map (λ (x : NewFile). table_entries tables x.meta.number) (filter stays v.files) e at in
        let kept = from_filter stays v.files from.source from.there in
        stay_each from.source e kept.0 (not_first (is_input p from.source.meta.number) kept.1) from.held own (cases_lt from.source.level (p.level + 2));
    only = λ e at. elim (Contains-append_cases above below e at) [ inl i ↦ from_above e i | inr i ↦ from_deep e i ];
  }
    where
      from_above : (e : Entry) → Contains above e → Contains others e × (user_of e.key ≡ user)
      from_above e i =
          let from = from_read tables user (files_above cmp v p) e i in
          let kept = from_filter (λ (m : FileMeta). not (taken m)) upto from.file from.there in
          let f = file_read (p.level + 2) 0 from.file kept.0 in
          (stay_only f.0 from.file e f.1 f.2 (not_first (taken from.file) kept.1) from.held, of_user user e from.own)

      from_deep : (e : Entry) → Contains below e → Contains others e × (user_of e.key ≡ user)
      from_deep e i =
          let x = from_below e i in
          (stay_only x.file x.file.meta e x.there refl (refuted (is_input p x.file.meta.number) (no_input x.file x.there x.deeper e x.held_by)) x.held_by, x.own)

  -- ---- all of them

  of_side : (e : Entry) → Contains (above ++ below) e ⊎ Contains inputs e → Contains (above ++ (inputs ++ below)) e
  of_side e (inl i) =
      elim (Contains-append_cases above below e i) [
        | inl j ↦ Contains-append_left above (inputs ++ below) e j
        | inr j ↦ Contains-append_right above (inputs ++ below) e (Contains-append_right inputs below e j)
      ]
  of_side e (inr i) = Contains-append_right above (inputs ++ below) e (Contains-append_left inputs below e i)

  to_side : (e : Entry) → Contains (above ++ (inputs ++ below)) e → Contains (above ++ below) e ⊎ Contains inputs e
  to_side e at =
      elim (Contains-append_cases above (inputs ++ below) e at) [
        | inl i ↦ inl (Contains-append_left above below e i)
        | inr i ↦ elim (Contains-append_cases inputs below e i) [ inl j ↦ inr j | inr j ↦ inl (Contains-append_right above below e j) ]
      ]

  of_all : AreThoseOf user (all_entries tables v.files) (above ++ (inputs ++ below))
  of_all = record {
    each = λ e at own.
        let from = from_flat_map (λ (x : NewFile). table_entries tables x.meta.number) v.files e at in
        of_side e (by_test e from.source from.there from.held own (cases (is_input p from.source.meta.number)));
    only = λ e at. elim (to_side e at) [ inl i ↦ other_only e i | inr i ↦ input_only e i ];
  }
    where
      by_test : (e : Entry) (f : NewFile) → Contains v.files f → Contains (table_entries tables f.meta.number) e → user_of e.key ≡ user → (is_input p f.meta.number ≡ true) ⊎ (is_input p f.meta.number ≡ false) → Contains (above ++ below) e ⊎ Contains inputs e
      by_test e f at held_by own (inl h) =
          let i = input_of f.meta.number h in
          inr (of_inputs.each e (in_flat_map (λ (x : InputFile). table_entries tables x.meta.number) p.files i.0 e i.1 (subst (λ (n : ℕ). Contains (table_entries tables n) e) (sym i.2) held_by)) own)
      by_test e f at held_by own (inr h) =
          inl (of_others.each e (in_flat_map (λ (x : NewFile). table_entries tables x.meta.number) (filter stays v.files) f e (in_filter stays v.files f (ap not h) at) held_by) own)

      other_only : (e : Entry) → Contains (above ++ below) e → Contains (all_entries tables v.files) e × (user_of e.key ≡ user)
      other_only e i =
          let of = of_others.only e i in
          let from = from_flat_map (λ (x : NewFile). table_entries tables x.meta.number) (filter stays v.files) e of.0 in
          (in_flat_map (λ (x : NewFile). table_entries tables x.meta.number) v.files from.source e (from_filter stays v.files from.source from.there).0 from.held, of.1)

      input_only : (e : Entry) → Contains inputs e → Contains (all_entries tables v.files) e × (user_of e.key ≡ user)
      input_only e i =
          let of = of_inputs.only e i in
          let from = from_flat_map (λ (x : InputFile). table_entries tables x.meta.number) p.files e of.0 in
          let f = safe.placed from.source from.there in
          (in_flat_map (λ (x : NewFile). table_entries tables x.meta.number) v.files f.file e f.there (subst (λ (m : FileMeta). Contains (table_entries tables m.number) e) (sym f.is) from.held), of.1)

  -- ---- where they stand

  -- a file that stays, down to the lower inputs' level, is newer than an input
  newer : (f g : FileMeta) → Contains upto f → Contains upto g → taken f ≡ false → taken g ≡ true → IsNewer cmp total v tables lawful f g
  newer f g at also out h a b i j same =
      let x = of_read cmp total v tables lawful (p.level + 2) 0 f at in
      let k = input_of g.number h in
      let all = newer_than x.at.file x.at.there (ap (λ (m : FileMeta). is_input p m.number) x.at.is ∙ out) (omega (arith, x.at.stands, x.high)) in
      let over : AreNewer (table_entries tables x.at.file.meta.number) (table_entries tables k.0.meta.number) =
      All-contains (λ (y : InputFile). AreNewer (table_entries tables x.at.file.meta.number) (table_entries tables y.meta.number)) p.files k.0 all k.1 in
      newer_at (table_entries tables x.at.file.meta.number) (table_entries tables k.0.meta.number) over a b
      (subst (λ (m : FileMeta). Contains (table_entries tables m.number) a) (sym x.at.is) i) (subst (λ (n : ℕ). Contains (table_entries tables n) b) (sym k.2) j) same
    where
      by_level : (n : ℕ) → n < p.level + 2 → (n < p.level) ⊎ ((n ≡ p.level) ⊎ (n ≡ p.level + 1))
      by_level n lt = elim (cases_lt n p.level) [ inl less ↦ inl less | inr le ↦ elim (cases_lt p.level n) [ inl more ↦ inr (inr (omega arith)) | inr most ↦ inr (inl (omega arith)) ] ]

      newer_than : (h : NewFile) → Contains v.files h → is_input p h.meta.number ≡ false → h.level < p.level + 2 → All (λ (y : InputFile). AreNewer (table_entries tables h.meta.number) (table_entries tables y.meta.number)) p.files
      newer_than h at out lt =
          elim (by_level h.level lt) [
            | inl less ↦ closed.shallower h at less
            | inr own ↦ elim own [ inl same ↦ closed.same_level h at out same | inr next ↦ closed.next_level h at out next ]
          ]

  upto_parted : entries_read tables user upto ≡ above ++ inputs
  upto_parted = parted cmp total v tables lawful user taken upto (read_order cmp total v tables lawful (p.level + 2) 0) newer

  -- nothing stands after level 6
  none_behind : (n : ℕ) → files_read cmp v 7 n ≡ []
  none_behind n =
      nothing_in (files_read cmp v 7 n)
      (λ m at.
      let x = of_read cmp total v tables lawful n 7 m at in
      let six : x.at.file.level ≤ 6 = All-contains (λ (y : NewFile). y.level ≤ 6) v.files x.at.file low x.at.there in
      absurd (omega (arith, x.at.stands, x.low, six)))

  all_files : files_read cmp v 0 7 ≡ upto ++ deep
  all_files =
      let more = p.level + 2 + (5 - p.level) - 7 in
      let counted : 7 + more ≡ p.level + 2 + (5 - p.level) = omega arith in
      let whole : files_read cmp v 0 (7 + more) ≡ files_read cmp v 0 7 =
      read_split cmp v 7 more 0 ∙ (ap (λ (l : List FileMeta). files_read cmp v 0 7 ++ l) (none_behind more) ∙ append-nil (files_read cmp v 0 7)) in
      let parts : files_read cmp v 0 (7 + more) ≡ upto ++ deep =
      ap (λ (k : ℕ). files_read cmp v 0 k) counted ∙ (read_split cmp v (p.level + 2) (5 - p.level) 0 ∙ ap (λ (k : ℕ). upto ++ files_read cmp v k (5 - p.level)) (zero-add (p.level + 2))) in
      sym whole ∙ parts

  read_is : entries_read tables user (files_read cmp v 0 7) ≡ above ++ (inputs ++ below)
  read_is =
      ap (entries_read tables user) all_files
      ∙ (read-append tables user upto deep ∙ (ap (λ (l : List Entry). l ++ below) upto_parted ∙ append_assoc above inputs below))

  falling : SequencesFall (above ++ (inputs ++ below))
  falling =
      subst (λ (es : List Entry). SequencesFall es) read_is
      (read_falls cmp total v tables lawful user (files_read cmp v 0 7) (λ m at. file_read 7 0 m at) (read_order cmp total v tables lawful 7 0))

  base : is_in_none cmp p.deeper user ≡ true → below ≡ []
  base none =
      nothing_in below
      (λ e at.
      let x = from_below e at in
      let inside : is_in_none cmp p.deeper (user_of e.key) ≡ false = All-contains (λ (y : Entry). is_in_none cmp p.deeper (user_of y.key) ≡ false) (table_entries tables x.file.meta.number) e (closed.at_base x.file x.there x.deeper) x.held_by in
      false_true (is_in_none cmp p.deeper user) none (subst (λ (u : List ℕ). is_in_none cmp p.deeper u ≡ false) x.own inside))

  pub stand_together : StandTogether cmp v tables p user
  stand_together = record {
    read = read_is;
    falls = falling;
    of_inputs = of_inputs;
    of_user = of_own;
    of_others = of_others;
    at_base = base;
    answers = λ at. answers_newest_first v tables user (above ++ (inputs ++ below)) at of_all falling;
  }

pub inputs_stand_together : (cmp : List ℕ → List ℕ → Ordering) → IsTotalOrder cmp → InputsStandTogether cmp
inputs_stand_together cmp total v tables level p user lawful low picked = stand_together cmp total v tables p user lawful low (picked_safe cmp total v tables level p lawful low picked)
