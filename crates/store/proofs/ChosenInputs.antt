-- The inputs of a choice: files of the version, and closed if it is lawful.
use Rattle.std.proofs.Common.{◌≡◌, ℕ, ◌+◌, ◌≤◌, Bool, true, false, List, map, length, Option, Result, Ok, Err, refl, sym, ap, subst, inl, inr, arith}
use Rattle.std.specs.Prelude.{Contains, MatchBool, nat_lt}
use Rattle.std.specs.List.{All}
use Rattle.std.specs.Cmp.{IsTotalOrder}
use Rattle.std.specs.declared.cmp.Ordering.{Ordering}
use Rattle.std.proofs.lemmas.Bool.Decides.{nat_tests}
use Rattle.std.proofs.lemmas.List.Elements.{Contains-append_cases}
use Rattle.table.specs.Key.{IsInternalKey}
use Rattle.folder.proofs.Binds.{bind_ok, done, failed, ok_is}
use Rattle.folder.specs.Answers.{fault}
use Rattle.folder.specs.fault.Fault.{Fault}
use Rattle.folder.specs.fault.FaultName.TheVariants.{Level, NoInput}
use Rattle.folder.specs.Comparator.{ShortKeys}
use Rattle.folder.specs.Version.{State, are_apart}
use Rattle.folder.specs.VersionOrder.{level_files}
use Rattle.folder.specs.meta.NewFile.{NewFile}
use Rattle.folder.specs.Calls.{Files}
use Rattle.folder.specs.LoadedTables.{IsLoaded}
use Rattle.folder.specs.ReadsAs.{IsFileIn}
use Rattle.pick.specs.PickedInputs.{IsInputsAnswer, IsPicked, PickedInputs, input_at}
use Rattle.pick.specs.declared.picked_inputs.InputFile.{InputFile}
use Rattle.reads.proofs.Members.{from_map}
use Rattle.reads.proofs.Pairs.{Pairs}
use Rattle.reads.specs.Lawful.{IsLawful}
use Rattle.reads.specs.Tables.{NumberedContents}
use Rattle.compact.proofs.PickedChoice.{picked_inputs_over}
use Rattle.compact.proofs.VersionInputs.{input_file}
use Rattle.compact.specs.InputsOver.{AreInputsOver}
use Rattle.compact.specs.OneThread.{Answer}
use Rattle.compact.specs.declared.settings.Settings.{Settings}
use Rattle.store.specs.Choice.{IsChosen}
use Rattle.store.specs.FolderRequest.{compaction_from}
use Rattle.store.specs.InputsCompaction.{IsChoiceAnswer, IsPickedAnswer, input_numbers}
use Rattle.store.specs.declared.choice.Choice.{Choice}
use Rattle.store.specs.declared.choice.Choice.TheVariants.{Part, Picked}
use Rattle.store.proofs.Compactions.{picked_of}
use Rattle.store.proofs.InputsApart.{AreTwoInputs, inputs_apart}
use Rattle.store.proofs.PartFiles.{ArePlaced, made, part_apart, part_over, part_placed, part_so}

-- inputs are answered of levels up to 5
low_level : (cmp : List ℕ → List ℕ → Ordering) (v : State) (level : ℕ) (p : PickedInputs) → IsInputsAnswer cmp v level (Ok p) → level ≤ 5
low_level cmp v level p h = by (nat_lt 5 level) (nat_lt 0 (length (level_files cmp v level))) refl h
  where
    not_above : nat_lt 5 level ≡ false → level ≤ 5
    not_above e = grind (arith, nat_tests)

    by : (a b : Bool) → nat_lt 5 level ≡ a → MatchBool a (Ok p ≡ Err (fault Level)) (MatchBool b (IsPicked cmp v level p) (Ok p ≡ Err (fault NoInput))) → level ≤ 5
    by true b e is = absurd (cc is)
    by false b e is = not_above e

module _ (cmp : List ℕ → List ℕ → Ordering) (total : IsTotalOrder cmp) (v : State) where
  module _ (tables : List NumberedContents) (lawful : IsLawful cmp v tables) where
    picked_placed : (level : ℕ) (p : PickedInputs) → IsInputsAnswer cmp v level (Ok p) → ArePlaced v p
    picked_placed level p answered = record {
      there = λ i at. let f = input_file cmp total v tables lawful level p picked i at in subst (Contains v.files) (made f.file i.level i.meta f.stands f.is) f.there;
      levels = λ i at.
          elim (Contains-append_cases (map (input_at level) picked.upper) (map (input_at (level + 1)) picked.lower) i (subst (λ (l : List InputFile). Contains l i) picked.files_are at)) [
            | inl j ↦ (let is : level ≡ i.level = ap (λ (x : InputFile). x.level) (from_map (input_at level) picked.upper i j).is in omega (arith, five, is))
            | inr j ↦ (let is : level + 1 ≡ i.level = ap (λ (x : InputFile). x.level) (from_map (input_at (level + 1)) picked.lower i j).is in omega (arith, five, is))
          ];
    }
      where
        picked : IsPicked cmp v level p
        picked = picked_of cmp v level p answered

        five : level ≤ 5
        five = low_level cmp v level p answered

    -- they are files of the version
    pub chosen_placed : (choice : Choice) (p : PickedInputs) → IsChosen cmp v choice (Ok p) → ArePlaced v p
    chosen_placed (Picked level) p h = picked_placed level p h
    chosen_placed (Part level number) p h = part_placed cmp total v level p (part_so cmp total v level number p h)

    -- and closed
    pub chosen_over : All (λ (f : NewFile). f.level ≤ 6) v.files → (choice : Choice) (p : PickedInputs) → IsChosen cmp v choice (Ok p) → IsInternalKey p.pointer.key → AreInputsOver cmp v p
    chosen_over low (Picked level) p h internal = picked_inputs_over cmp total v tables level p lawful low (picked_of cmp v level p h)
    chosen_over low (Part level number) p h internal = part_over cmp total v level p (part_so cmp total v level number p h) tables lawful low internal

  -- no two of them have one number
  pub chosen_apart : are_apart v.files ≡ true → (choice : Choice) (p : PickedInputs) → IsChosen cmp v choice (Ok p) → Pairs AreTwoInputs p.files
  chosen_apart apart (Picked level) p h = inputs_apart cmp total v apart level p (picked_of cmp v level p h)
  chosen_apart apart (Part level number) p h = part_apart cmp total v level p (part_so cmp total v level number p h) apart

-- what is chosen after the test of the version's files
pub choice_chosen : (cmp : List ℕ → List ℕ → Ordering) (v : State) (choice : Choice) (p : PickedInputs) → IsChoiceAnswer cmp v choice (Ok p) → IsChosen cmp v choice (Ok p)
choice_chosen cmp v choice p (Ok passed, (h, k)) = k
choice_chosen cmp v choice p (Err e, (h, is)) = absurd (no_inputs p e is)
  where
    no_inputs : (p : PickedInputs) (e : Fault) → done p ≡ failed e → ⊥
    no_inputs p e h = cc

-- what one thread answered for inputs that were read
pub record IsAnsweredOf (first : Option ℕ) (cmp : List ℕ → List ℕ → Ordering) (short_keys : ShortKeys) (files : Files) (v : State) (s : Settings) (p : PickedInputs) (a : Answer) : Type 0 where
  pub own : List (ℕ × List ℕ)
  pub read : IsLoaded (IsFileIn files) (input_numbers p.files) (Ok own)
  pub answered : compaction_from first cmp short_keys v own p s ≡ Ok a

abbrev pub value : PickedInputs × Answer → Result (PickedInputs × Answer) Fault
value x = Ok x

abbrev refusal : Fault → Result (PickedInputs × Answer) Fault
refusal e = Err e

no_error : (x : PickedInputs × Answer) (e : Fault) → value x ≡ refusal e → ⊥
no_error x e h = cc h

pub picked_answered : (first : Option ℕ) (cmp : List ℕ → List ℕ → Ordering) (short_keys : ShortKeys) (files : Files) (v : State) (s : Settings) (p : PickedInputs) (a : Answer)
    → IsPickedAnswer first cmp short_keys files v s p (Ok (p, a)) → IsAnsweredOf first cmp short_keys files v s p a
picked_answered first cmp short_keys files v s p a (Err e, (l, is)) = absurd (no_error (p, a) e is)
picked_answered first cmp short_keys files v s p a (Ok own, (l, (Err e, (m, is)))) = absurd (no_error (p, a) e is)
picked_answered first cmp short_keys files v s p a (Ok own, (l, (Ok contents, (m, is)))) =
    let parts = bind_ok (compaction_from first cmp short_keys v own p s) (λ (b : Answer). value (p, b)) (p, a) (sym is) in
    let same : parts.0 ≡ a = ap (λ (x : PickedInputs × Answer). x.1) (ok_is (p, parts.0) (p, a) parts.2) in
    record { own = own; read = l; answered = subst (λ (b : Answer). compaction_from first cmp short_keys v own p s ≡ Ok b) same parts.1 }
