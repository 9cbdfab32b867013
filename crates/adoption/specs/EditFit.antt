-- Which edits fit a version: those of a compaction of files that are closed inputs of it now.
use Rattle.std.specs.Prelude.{◌≡◌, ℕ, ◌+◌, nat_eq, nat_lt, nat_le, Bool, true, false, ◌&&◌, List}
use Rattle.std.specs.Prelude.{[], ◌∷◌, map}
use Rattle.std.specs.Prelude.{Option, Some, None, unwrap_or, Result, Ok, Err}
use Rattle.std.specs.List.{list_all}
use Rattle.std.specs.Option.{ok_or}
use Rattle.edit.specs.Answers.{IsThen, fault}
use Rattle.edit.specs.fault.Fault.{Fault}
use Rattle.edit.specs.fault.FaultName.TheVariants.{Apply}
use Rattle.edit.specs.Comparator.{KeyOrder}
use Rattle.edit.specs.Edit.{Edit}
use Rattle.edit.specs.Version.{State}
use Rattle.edit.specs.declared.meta.CompactPointer.{CompactPointer}
use Rattle.edit.specs.declared.meta.DeletedFile.{DeletedFile}
use Rattle.edit.specs.declared.meta.NewFile.{NewFile}
use Rattle.pick.specs.ClosedChoice.{IsClosedChoice, has_number_of}
use Rattle.pick.specs.NumberedInputs.{numbered_answer}
use Rattle.pick.specs.PickedInputs.{PickedInputs}
use Rattle.compact.specs.EditOf.{deletions_of}

-- the compact pointer, if it is the only one
abbrev pub only_pointer : List CompactPointer → Option CompactPointer
only_pointer (pointer ∷ []) = Some pointer
only_pointer _ = None

-- the numbers of the files that an edit deletes
abbrev pub deleted_numbers : Edit → List ℕ
deleted_numbers e = map (λ (d : DeletedFile). d.number) e.deleted

-- the inputs that have these numbers, or Apply if there are none
abbrev pub IsNumbered : KeyOrder → State → CompactPointer → List ℕ → Result PickedInputs Fault →
    Type 0
IsNumbered cmp v pointer numbers (Ok p) = numbered_answer cmp v pointer numbers ≡ Ok p
IsNumbered cmp v pointer numbers (Err e) = (e ≡ fault Apply)
    × ((refused : Fault) × (numbered_answer cmp v pointer numbers ≡ Err refused))

-- these inputs if that is so, else Apply
abbrev pub AreTheseIf : Type 0 → PickedInputs → Result PickedInputs Fault → Type 0
AreTheseIf IsSo p (Ok same) = (same ≡ p) × IsSo
AreTheseIf IsSo p (Err e) = (e ≡ fault Apply) × (IsSo → ⊥)

-- the inputs that have these numbers; Apply if there are none, or their files aren't a closed
-- choice for the level of the inputs
abbrev pub IsChoiceOf : KeyOrder → State → CompactPointer → List ℕ → Result PickedInputs Fault →
    Type 0
IsChoiceOf cmp v pointer numbers = IsThen (IsNumbered cmp v pointer numbers)
    (λ p. AreTheseIf (IsClosedChoice cmp v p.level (has_number_of numbers)) p)

-- whether the numbers of files rise, from above one number to below another
abbrev pub rise_between : ℕ → ℕ → List NewFile → Bool
rise_between low high [] = true
rise_between low high (f ∷ files) = (nat_lt low f.meta.number && nat_lt f.meta.number high)
    && rise_between f.meta.number high files

-- whether both numbers are set, and the files' numbers rise between them
abbrev pub rise_within : Option ℕ → Option ℕ → List NewFile → Bool
rise_within (Some low) (Some high) files = rise_between low high files
rise_within _ _ files = false

-- whether a sequence is set, and isn't above the last one, which is 0 if it isn't set
abbrev pub is_reached : Option ℕ → Option ℕ → Bool
is_reached (Some sequence) now = nat_le sequence (unwrap_or now 0)
is_reached None now = false

-- Whether the counters of an edit fit a version. The numbers of its new files rise, from above the
-- version's next file to below the edit's own. Its last sequence isn't above the version's.
abbrev pub are_counted : State → Edit → Bool
are_counted v e = rise_within v.next_file e.next_file e.added
    && is_reached e.last_sequence v.last_sequence

-- The edit is one of a compaction of these inputs of a version: it names no comparator, and deletes
-- just them. Its new files are of the next level, and its counters fit.
pub record IsEditFor (v : State) (p : PickedInputs) (e : Edit) : Type 0 where
  pub no_name : e.comparator ≡ None
  pub deleted : e.deleted ≡ deletions_of p.files
  pub levels : list_all (λ (f : NewFile). nat_eq f.level (p.level + 1)) e.added ≡ true
  pub counted : are_counted v e ≡ true

-- The inputs of the compaction that has this edit: the files that it deletes. Apply unless it has
-- just one compact pointer, these files are closed inputs of that one's level, and the edit is one
-- for them.
abbrev pub IsFitting : KeyOrder → State → Edit → Result PickedInputs Fault → Type 0
IsFitting cmp v e = IsThen (λ pointer. pointer ≡ ok_or (only_pointer e.pointers) (fault Apply))
    (λ pointer. IsThen (IsChoiceOf cmp v pointer (deleted_numbers e))
    (λ p. AreTheseIf (IsEditFor v p e) p))
