-- The version that the edit of a compaction makes.
use Rattle.std.specs.Prelude.{◌≡◌, ℕ, ◌+◌, ◌≤◌, List, [], ◌∷◌, ◌++◌, length, fold, Some}
use Rattle.std.specs.List.Sorted.{IsPermutation}
use Rattle.std.specs.Option.{ForSome}
use Rattle.ikey.specs.Comparator.{KeyOrder}
use Rattle.edit.specs.Version.{State, applied, with_file, with_pointer}
use Rattle.pick.specs.PickedInputs.{IsPicked}
use Rattle.reads.specs.Lawful.{IsLawful}
use Rattle.reads.specs.Tables.{NumberedContents}
use Rattle.compact.specs.Request.{RequestView}
use Rattle.compact.specs.OutputTables.{Output}
use Rattle.compact.specs.EditOf.{edit_of, new_files}
use Rattle.compact.specs.GetsAfter.{staying_files}

-- the version with the request's counters, its compact pointer, the files that stay and the outputs
abbrev pub version_after : State → RequestView → List Output → State
version_after v r outputs = record {
  log_number = Some r.log_number;
  previous_log = Some r.previous_log;
  next_file = Some (r.first_number + length outputs);
  last_sequence = Some r.last_sequence;
  pointers =
      with_pointer v.pointers (record { level = r.picked.level; key = r.picked.pointer.key });
  files = fold with_file (staying_files v r.picked) (new_files r outputs);
}

-- the outputs have consecutive numbers from `number` on
abbrev pub AreNumberedFrom : ℕ → List Output → Type 0
AreNumberedFrom number [] = Unit {0}
AreNumberedFrom number (w ∷ ws) = (w.number ≡ number) × AreNumberedFrom (number + 1) ws

-- If the inputs were picked from a lawful version and the outputs are numbered from its next file
-- on, the edit applies and makes that version. Its files are those that stay, and the outputs.
pub record EditApplies (cmp : KeyOrder) : Type 0 where
  pub applies : (v : State) (tables : List NumberedContents) (level : ℕ) (r : RequestView)
      (outputs : List Output) →
      IsLawful cmp v tables → IsPicked cmp v level r.picked →
      ForSome v.next_file (λ next. next ≤ r.first_number) →
      AreNumberedFrom r.first_number outputs →
      applied v (edit_of r (new_files r outputs)) ≡ Some (version_after v r outputs)
  pub files : (v : State) (tables : List NumberedContents) (level : ℕ) (r : RequestView)
      (outputs : List Output) →
      IsLawful cmp v tables → IsPicked cmp v level r.picked →
      ForSome v.next_file (λ next. next ≤ r.first_number) →
      AreNumberedFrom r.first_number outputs →
      IsPermutation (staying_files v r.picked ++ new_files r outputs)
      (version_after v r outputs).files
