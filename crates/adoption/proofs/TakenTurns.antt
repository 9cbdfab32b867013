-- Outcomes that are taken in one after the other: their edits together make the version that they
-- make one after the other.
use Rattle.std.proofs.Common.{◌≡◌, ◌⊎◌, ℕ, ◌+◌, ◌-◌, ◌<◌, ◌≤◌, ◌^◌, max, nat_eq, nat_lt, Bool, true, false, not, ◌==◌, List, [], ◌∷◌, ◌++◌, map, unwrap_or, Some, None, is_some, refl, sym, ap, subst, ◌∙◌, inl, inr, arith, eqb-true}
use Rattle.std.specs.Prelude.{Contains}
use Rattle.std.specs.List.{AllByRecursion, list_all}
use Rattle.std.proofs.lemmas.Bool.{ltb-true}
use Rattle.std.proofs.lemmas.List.{append-nil, map-append}
use Rattle.edit.specs.Comparator.{KeyOrder}
use Rattle.edit.specs.Edit.{Edit, IsEdit, deleted_cmp}
use Rattle.edit.specs.Version.{IsState, State, applied, has_place, is_deleted, is_same_place, place_of, undeleted_files}
use Rattle.edit.specs.declared.meta.DeletedFile.{DeletedFile}
use Rattle.edit.specs.declared.meta.NewFile.{NewFile}
use Rattle.edit.proofs.Edits.{one_edit}
use Rattle.folder.specs.Levels.{file_numbers}
use Rattle.folder.specs.ReadsAs.{IsOneOf}
use Rattle.install.specs.GroupedInstallation.{tables_of_groups}
use Rattle.install.specs.Install.{IsEditedBy, numbers_of}
use Rattle.install.proofs.Numbers.{among_append, numbers_in}
use Rattle.pick.specs.declared.picked_inputs.InputFile.{InputFile}
use Rattle.pick.proofs.Lists.{and_first, and_second}
use Rattle.keep.proofs.Members.{first_or_later, from_filter, from_map, none_in}
use Rattle.compact.specs.EditOf.{deletion_of}
use Rattle.compact.proofs.AppliedEdit.{all_only, all_tests, none_tests}
use Rattle.compact.proofs.Closing.{any_at}
use Rattle.compact.proofs.VersionInputs.{any_passes}
use Rattle.store.proofs.TablesAfter.{one_number}
use Rattle.store.specs.FolderRequest.{manifest_of}
use Rattle.install.specs.JoinedEdits.{joined_edit}
use Rattle.install.proofs.DeletedSets.{tied}
use Rattle.install.proofs.JoinedBytes.{edits_join}
use Rattle.levels.proofs.JoinedFiles.{joined_applies}
use Rattle.levels.proofs.Rows.{numbers_joined, other_place}
use Rattle.adoption.specs.Adoption.{Adoption, adopted, adopted_next}
use Rattle.adoption.specs.AdoptedOutcome.{IsAdopted}
use Rattle.adoption.specs.TakenOutcomes.{AreTakenInTurn, Given, edits_in, given_tables, groups_of, has_opened_inputs}
use Rattle.adoption.proofs.AdoptedSo.{IsAdoptedSo, IsCounted, adopted_so, counted_so, edited_so, places_so, rising_below}
use Rattle.adoption.proofs.EditedVersion.{file_below, output_above, output_numbers}
use Rattle.adoption.proofs.SortedMembers.{files_from}
use Rattle.reads.proofs.FallingEntries.{of_each}

-- ---- lists
test_at : {X : Type 0} (p : X → Bool) (xs : List X) (x : X) → list_all p xs ≡ true → Contains xs x → p x ≡ true
test_at p [] x h at = absurd (none_in x at)
test_at p (y ∷ xs) x h at = elim (first_or_later y xs x at) [
  | inl same ↦ subst (λ z. p z ≡ true) (sym same) (and_first (p y) (list_all p xs) h)
  | inr later ↦ test_at p xs x (and_second (p y) (list_all p xs) h) later
]

groups_append : (groups : List (List (ℕ × List ℕ))) (tables : List (ℕ × List ℕ)) → tables_of_groups (groups ++ tables ∷ []) ≡ tables_of_groups groups ++ tables
groups_append [] tables = append-nil tables
groups_append (g ∷ groups) tables = ap (λ (ts : List (ℕ × List ℕ)). g ++ ts) (groups_append groups tables) ∙ sym (joined g (tables_of_groups groups) tables)
  where
    joined : (a b c : List (ℕ × List ℕ)) → (a ++ b) ++ c ≡ a ++ (b ++ c)
    joined [] b c = refl
    joined (t ∷ a) b c = ap (λ (ts : List (ℕ × List ℕ)). t ∷ ts) (joined a b c)

pub groups_joined : (outcomes : List Given) → tables_of_groups (groups_of outcomes) ≡ given_tables outcomes
groups_joined [] = refl
groups_joined (o ∷ before) = groups_append (groups_of before) o.1 ∙ ap (λ (ts : List (ℕ × List ℕ)). ts ++ o.1) (groups_joined before)

same_number : (f : NewFile) (d : DeletedFile) → is_same_place (place_of f) d ≡ true → f.meta.number ≡ d.number
same_number f d h = eqb-true f.meta.number d.number (and_second (f.level == d.level) (nat_eq f.meta.number d.number) h)

-- ---- one outcome

module _ (cmp : KeyOrder) (w : State) (a : Adoption) (tables : List (ℕ × List ℕ)) (ad : IsAdopted cmp w (a, tables)) where
  abbrev own : Edit
  own = adopted w ad.edit

  so : IsAdoptedSo cmp w ad.edit a
  so = adopted_so cmp w ad.edit a ad.adoption

  counted : IsCounted w ad.edit
  counted = counted_so w ad.edit so.fits.counted

  next_is : manifest_of a.next ≡ adopted_next w ad.edit
  next_is = sym (ap manifest_of (edited_so w own a.next so.applies))

  above : (m n : ℕ) → (m ≤ max m n) × (n ≤ max m n)
  above m n = (grind arith, grind arith)

  pub next_higher : manifest_of w < manifest_of a.next
  next_higher = let is = next_is in let le = (above (unwrap_or ad.edit.next_file 0) (manifest_of w + 1)).1 in omega (arith, is, le)

  pub output_below : (n : ℕ) → IsOneOf (numbers_of tables) n → n < manifest_of a.next
  output_below n m =
      let lt = rising_below w.next_file ad.edit.next_file ad.edit.added n counted.within (subst (λ (ns : List ℕ). IsOneOf ns n) (sym (output_numbers cmp w a tables ad)) m) in
      let le = (above (unwrap_or ad.edit.next_file 0) (manifest_of w + 1)).0 in
      let is = next_is in
      omega (arith, lt, le, is)

  small : manifest_of w < 2 ^ 64
  small = let lt = ltb-true (manifest_of w) (2 ^ 64 - 1) so.few in omega (arith, lt)

  next_set : own.next_file ≡ Some (manifest_of a.next)
  next_set = ap (λ (n : ℕ). Some n) (sym next_is)

  -- each file that it deletes is one of its inputs
  deleted_input : (d : DeletedFile) → Contains own.deleted d → (i : InputFile) × Contains a.picked.files i × (deletion_of i ≡ d)
  deleted_input d at = elim (all_only deleted_cmp tied [] (map deletion_of a.picked.files) d (subst (λ (ds : List DeletedFile). Contains ds d) so.fits.deleted at)) [
    | inl none ↦ absurd (none_in d none)
    | inr there ↦ (let x = from_map deletion_of a.picked.files d there in (x.source, x.there, x.is))
  ]

  deleted_low : (first : State) → has_opened_inputs first (a, tables) ≡ true → (d : DeletedFile) → Contains own.deleted d → d.number < manifest_of first
  deleted_low first opened d at =
      let i = deleted_input d at in
      let lt = ltb-true i.0.meta.number (manifest_of first) (test_at (λ (x : InputFile). nat_lt x.meta.number (manifest_of first)) a.picked.files i.0 opened i.1) in
      subst (λ (n : ℕ). n < manifest_of first) (ap (λ (x : DeletedFile). x.number) i.2) lt

-- ---- all of them

-- their edits are one that makes the last version of the first one
pub record AreOneEdit (cmp : KeyOrder) (first : State) (outcomes : List Given) (v : State) : Type 0 where
  pub edit : Edit
  pub read : IsEdit (edits_in outcomes) edit
  pub makes : applied first edit ≡ Some v
  pub unnamed : edit.comparator ≡ None
  pub log_set : is_some edit.log_number ≡ true
  pub previous_set : is_some edit.previous_log ≡ true
  pub last_set : is_some edit.last_sequence ≡ true
  pub next_set : edit.next_file ≡ Some (manifest_of v)
  pub added : numbers_in edit.added ≡ numbers_of (given_tables outcomes)
  pub numbers : (n : ℕ) → IsOneOf (numbers_of (given_tables outcomes)) n → (manifest_of first < n) × (n < manifest_of v)
  pub higher : manifest_of first < manifest_of v
  pub free : first.next_file ≡ Some (manifest_of first)
  pub low : manifest_of first < 2 ^ 64
  pub below : (n : ℕ) → IsOneOf (file_numbers cmp first) n → n < manifest_of first
  pub state : IsState first.pointers first.files

-- the first one
one_alone : (cmp : KeyOrder) (first : State) (a : Adoption) (tables : List (ℕ × List ℕ)) → IsAdopted cmp first (a, tables) → AreOneEdit cmp first ((a, tables) ∷ []) a.next
one_alone cmp first a tables ad = record {
  edit = own cmp first a tables ad;
  read = ad.read;
  makes = (so cmp first a tables ad).applies;
  unnamed = refl;
  log_set = refl;
  previous_set = refl;
  last_set = refl;
  next_set = next_set cmp first a tables ad;
  added = output_numbers cmp first a tables ad;
  numbers = λ n m. (output_above cmp first a tables ad n m, output_below cmp first a tables ad n m);
  higher = next_higher cmp first a tables ad;
  free = (counted cmp first a tables ad).first_free;
  low = small cmp first a tables ad;
  below = file_below cmp first a tables ad;
  state = ad.state;
}

-- and each later one, of which the inputs are files of the first version
module _ (cmp : KeyOrder) (first w : State) (before : List Given) (one : AreOneEdit cmp first before w) (a : Adoption) (tables : List (ℕ × List ℕ)) (ad : IsAdopted cmp w (a, tables)) (opened : has_opened_inputs first (a, tables) ≡ true) where
  abbrev later : Edit
  later = own cmp w a tables ad

  added_above : (x : NewFile) → Contains one.edit.added x → manifest_of first < x.meta.number
  added_above x at = (one.numbers x.meta.number (subst (λ (ns : List ℕ). IsOneOf ns x.meta.number) one.added (one_number one.edit.added x at))).0

  -- a file of the version between was there, or is new
  file_from : (x : NewFile) → Contains w.files x → Contains first.files x ⊎ Contains one.edit.added x
  file_from x at =
      let files = ap (λ (s : State). s.files) (edited_so first one.edit w one.makes) in
      elim (files_from (undeleted_files one.edit.deleted first.files) one.edit.added x (subst (λ (fs : List NewFile). Contains fs x) (sym files) at)) [
        | inl old ↦ inl (from_filter (λ (f : NewFile). not (is_deleted one.edit.deleted f)) first.files x old).0
        | inr new ↦ inr new
      ]

  place_there : (d : DeletedFile) → Contains later.deleted d → has_place first.files d ≡ true
  place_there d at =
      let found = any_passes (λ (x : NewFile). is_same_place (place_of x) d) w.files (test_at (has_place w.files) later.deleted d (places_so w later a.next (so cmp w a tables ad).applies) at) in
      let low = deleted_low cmp w a tables ad first opened d at in
      let same = same_number found.item d found.passes in
      elim (file_from found.item found.there) [
        | inl old ↦ any_at (λ (x : NewFile). is_same_place (place_of x) d) first.files found.item old found.passes
        | inr new ↦ (let high = added_above found.item new in absurd (omega (arith, low, high, same)))
      ]

  places : list_all (has_place first.files) later.deleted ≡ true
  places = all_tests (has_place first.files) later.deleted place_there

  apart : AllByRecursion (λ (x : NewFile). is_deleted later.deleted x ≡ false) one.edit.added
  apart = of_each (λ (x : NewFile). is_deleted later.deleted x ≡ false) one.edit.added (λ x at.
      none_tests (is_same_place (place_of x)) later.deleted (λ d there.
      let low = deleted_low cmp w a tables ad first opened d there in
      let high = added_above x at in
      other_place x d (omega (arith, low, high))))

  numbers_are : numbers_of (given_tables before ++ tables) ≡ numbers_of (given_tables before) ++ numbers_of tables
  numbers_are = numbers_joined (given_tables before) tables

  one_more : AreOneEdit cmp first ((a, tables) ∷ before) a.next
  one_more = record {
    edit = joined_edit one.edit later;
    read = edits_join (edits_in before) a.edit one.edit later one.read ad.read;
    makes = joined_applies first w a.next one.edit later one.state one.makes (so cmp w a tables ad).applies places apart;
    unnamed = one.unnamed;
    log_set = refl;
    previous_set = refl;
    last_set = refl;
    next_set = next_set cmp w a tables ad;
    added =
        map-append (λ (x : NewFile). x.meta.number) one.edit.added later.added
        ∙ ap (λ (ns : List ℕ). ns ++ numbers_in later.added) one.added
        ∙ ap (λ (ns : List ℕ). numbers_of (given_tables before) ++ ns) (output_numbers cmp w a tables ad)
        ∙ sym numbers_are;
    numbers = λ n m. elim (among_append (numbers_of (given_tables before)) (numbers_of tables) n (subst (λ (ns : List ℕ). IsOneOf ns n) numbers_are m)) [
      | inl old ↦ (let x = one.numbers n old in let lt = next_higher cmp w a tables ad in (x.0, omega (arith, x.1, lt)))
      | inr new ↦ (let lt = output_above cmp w a tables ad n new in let high = one.higher in (omega (arith, lt, high), output_below cmp w a tables ad n new))
    ];
    higher = let lt = one.higher in let high = next_higher cmp w a tables ad in omega (arith, lt, high);
    free = one.free;
    low = one.low;
    below = one.below;
    state = one.state;
  }

pub one_edit_of : (cmp : KeyOrder) (first v : State) (o : Given) (before : List Given) → AreTakenInTurn cmp first (o ∷ before) v → AreOneEdit cmp first (o ∷ before) v
one_edit_of cmp first v (a, tables) [] (w, start, ad, opened, is) =
    subst (AreOneEdit cmp first ((a, tables) ∷ [])) (sym is) (one_alone cmp first a tables (subst (λ (s : State). IsAdopted cmp s (a, tables)) start ad))
one_edit_of cmp first v (a, tables) (p ∷ before) (w, turn, ad, opened, is) =
    subst (AreOneEdit cmp first ((a, tables) ∷ (p ∷ before))) (sym is) (one_more cmp first w (p ∷ before) (one_edit_of cmp first w p before turn) a tables ad opened)

-- whatever bytes read as that edit, they make the last version
pub edited_in_turn : (cmp : KeyOrder) (first v : State) (outcomes : List Given) (one : AreOneEdit cmp first outcomes v) (e : Edit) (bytes : List ℕ) → IsEdit (edits_in outcomes) e → IsEdit bytes e → IsEditedBy cmp first (manifest_of first) (given_tables outcomes) bytes v
edited_in_turn cmp first v outcomes one e bytes read again =
    let same : one.edit ≡ e = one_edit (edits_in outcomes) one.edit e one.read read in
    record {
      edit = one.edit;
      read = subst (IsEdit bytes) (sym same) again;
      no_name = one.unnamed;
      log_number = one.log_set;
      previous_log = one.previous_set;
      last_sequence = one.last_set;
      edited = one.makes;
      added = one.added;
      least = manifest_of first;
      first_free = one.free;
      below = one.below;
      above = λ n m. let x = one.numbers n m in omega (arith, x.0);
      manifest_above = omega arith;
      next_free = manifest_of v;
      next_file = one.next_set;
      manifest_below = one.higher;
    }
