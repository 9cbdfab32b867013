-- Reads survive: the version after a compaction is lawful, and answers as before at each readable
-- sequence.
use Rattle.std.specs.Prelude.{◌≡◌, ℕ, ◌≤◌, true, not, List, ◌++◌, map, filter, Some, Ok}
use Rattle.std.specs.List.{All}
use Rattle.table.specs.CheckedContents.{contents_in}
use Rattle.edit.specs.Edit.{Edit, IsEdit}
use Rattle.edit.specs.Version.{State, applied}
use Rattle.edit.specs.declared.meta.NewFile.{NewFile}
use Rattle.edit.specs.declared.meta.TheConstants.{LAST_LEVEL}
use Rattle.pick.specs.PickedInputs.{PickedInputs, IsPicked}
use Rattle.reads.specs.Gets.{get_of}
use Rattle.reads.specs.Lawful.{IsLawful}
use Rattle.reads.specs.Tables.{NumberedContents}
use Rattle.compact.specs.ClosedInputs.{is_input}
use Rattle.compact.specs.InputsOver.{AreInputsOver}
use Rattle.keep.specs.Readable.{readable_of, is_read}
use Rattle.keep.specs.DropRule.{kept}
use Rattle.compact.specs.Request.{RequestView}
use Rattle.compact.specs.OneThread.{Answer, one_thread}
use Rattle.compact.specs.GetsAfter.{HoldKept}
use Rattle.compact.specs.EditAfter.{version_after}
use Rattle.compact.specs.RequestOverVersion.{IsOver, HoldOutputs}
use Rattle.ikey.specs.Comparator.{KeyOrder, ShortKeys}

-- an output's number, and what its bytes hold
abbrev pub output_table : KeyOrder → ℕ × List ℕ → NumberedContents
output_table cmp output = record { number = output.0; contents = contents_in cmp output.1 }

-- the tables after a compaction: the outputs, and the old tables less those of the inputs
abbrev pub tables_after : KeyOrder → PickedInputs → Answer → List NumberedContents →
    List NumberedContents
tables_after cmp p answer tables =
    map (output_table cmp) answer.tables
    ++ filter (λ (t : NumberedContents). not (is_input p t.number)) tables

-- Let the inputs be picked from a lawful version with files at levels up to 6. If an answer's
-- outputs hold what they should, the version after is lawful with the tables after. Its files hold
-- the entries of the files that stay and what is kept of the inputs' union.
pub record VersionAfterLaw (cmp : KeyOrder) (short_keys : ShortKeys) : Type 0 where
  pub lawful : (v : State) (tables : List NumberedContents) (level : ℕ) (r : RequestView)
      (answer : Answer) →
      IsLawful cmp v tables → All (λ (f : NewFile). f.level ≤ LAST_LEVEL) v.files →
      IsPicked cmp v level r.picked → IsOver v tables r →
      (held : HoldOutputs cmp short_keys tables r answer) →
      IsLawful cmp (version_after v r held.outputs) (tables_after cmp r.picked answer tables)
  pub holds : (v : State) (tables : List NumberedContents) (level : ℕ) (r : RequestView)
      (answer : Answer) →
      IsLawful cmp v tables → All (λ (f : NewFile). f.level ≤ LAST_LEVEL) v.files →
      IsPicked cmp v level r.picked → IsOver v tables r →
      (held : HoldOutputs cmp short_keys tables r answer) →
      HoldKept v tables r.picked
      (kept cmp (readable_of r.snapshots r.last_sequence) r.picked.deeper held.union)
      (version_after v r held.outputs) (tables_after cmp r.picked answer tables)

-- The edit applies, the version after is lawful, and each get at a sequence that stays readable
-- answers as before.
pub record KeepsReads (cmp : KeyOrder) (v : State) (tables : List NumberedContents)
    (r : RequestView) (answer : Answer) (e : Edit) : Type 0 where
  pub after : State
  pub is_after : applied v e ≡ Some after
  pub lawful_after : IsLawful cmp after (tables_after cmp r.picked answer tables)
  pub gets_after : (user : List ℕ) (at : ℕ) → is_read (readable_of r.snapshots r.last_sequence) at
      ≡ true →
      get_of after (tables_after cmp r.picked answer tables) user at ≡ get_of v tables user at

-- What an answer leaves of each lawful version with files at levels up to 6 over which the
-- request's inputs are, whoever chose them. The bytes of the edit read as an edit, and in the
-- version that any such edit makes reads survive.
pub record LeavesClosedReads (cmp : KeyOrder) (r : RequestView) (answer : Answer) : Type 0 where
  pub reads : (v : State) (tables : List NumberedContents) →
      IsLawful cmp v tables → All (λ (f : NewFile). f.level ≤ LAST_LEVEL) v.files →
      AreInputsOver cmp v r.picked → IsOver v tables r →
      (e : Edit) × IsEdit answer.edit e
  pub survives : (v : State) (tables : List NumberedContents) (e : Edit) →
      IsLawful cmp v tables → All (λ (f : NewFile). f.level ≤ LAST_LEVEL) v.files →
      AreInputsOver cmp v r.picked → IsOver v tables r →
      IsEdit answer.edit e → KeepsReads cmp v tables r answer e

-- What an answer leaves of each lawful version with files at levels up to 6 from which the
-- request's inputs were picked, and of each over which they are. The bytes of the edit read as an
-- edit, and in the version that any such edit makes reads survive.
pub record LeavesReads (cmp : KeyOrder) (r : RequestView) (answer : Answer) : Type 0 where
  pub reads : (v : State) (tables : List NumberedContents) (level : ℕ) →
      IsLawful cmp v tables → All (λ (f : NewFile). f.level ≤ LAST_LEVEL) v.files →
      IsPicked cmp v level r.picked → IsOver v tables r →
      (e : Edit) × IsEdit answer.edit e
  pub survives : (v : State) (tables : List NumberedContents) (level : ℕ) (e : Edit) →
      IsLawful cmp v tables → All (λ (f : NewFile). f.level ≤ LAST_LEVEL) v.files →
      IsPicked cmp v level r.picked → IsOver v tables r →
      IsEdit answer.edit e → KeepsReads cmp v tables r answer e
  pub of_closed : LeavesClosedReads cmp r answer

-- each answer of one thread leaves reads so
abbrev pub ReadsSurvive : KeyOrder → ShortKeys → Type 0
ReadsSurvive cmp short_keys =
    (r : RequestView) (answer : Answer) → one_thread cmp short_keys r ≡ Ok answer →
    LeavesReads cmp r answer

-- each answer of one thread leaves reads so, of all closed inputs
abbrev pub ClosedReadsSurvive : KeyOrder → ShortKeys → Type 0
ClosedReadsSurvive cmp short_keys =
    (r : RequestView) (answer : Answer) → one_thread cmp short_keys r ≡ Ok answer →
    LeavesClosedReads cmp r answer
