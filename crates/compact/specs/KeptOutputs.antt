-- Outputs that hold what is kept of the inputs, whoever cut them, and that reads survive them.
use Rattle.std.specs.Prelude.{◌≡◌, ◌≢◌, ℕ, ◌+◌, ◌<◌, ◌≤◌, true, List, map, Some, Contains}
use Rattle.std.specs.Prelude.{Ok}
use Rattle.std.specs.List.{All}
use Rattle.std.specs.List.Sorted.{IsPermutation}
use Rattle.ikey.specs.Comparator.{KeyOrder}
use Rattle.table.specs.EncodedEntry.{Entry}
use Rattle.table.specs.TableContents.{table_reading}
use Rattle.edit.specs.Edit.{Edit}
use Rattle.edit.specs.Version.{State, applied}
use Rattle.edit.specs.declared.meta.NewFile.{NewFile}
use Rattle.edit.specs.declared.meta.TheConstants.{LAST_LEVEL}
use Rattle.pick.specs.PickedInputs.{PickedInputs}
use Rattle.reads.specs.Gets.{get_of}
use Rattle.reads.specs.Lawful.{AreDisjoint, IsBelowNextFile, IsFileOf, IsLawful}
use Rattle.reads.specs.MergedLists.{entries_of_lists}
use Rattle.reads.specs.Tables.{NumberedContents}
use Rattle.reads.specs.Union.{IsUnion}
use Rattle.keep.specs.DropRule.{kept}
use Rattle.keep.specs.Readable.{Readable, is_read}
use Rattle.compact.specs.EditOf.{deletions_of, new_file}
use Rattle.compact.specs.GetsAfter.{entries_of_inputs}
use Rattle.compact.specs.InputsOver.{AreInputsOver}
use Rattle.compact.specs.OneThread.{Answer}
use Rattle.compact.specs.OutputTables.{Output, numbered_tables}
use Rattle.compact.specs.RequestOverVersion.{output_entries}
use Rattle.compact.specs.SurvivingReads.{tables_after}

-- The inputs' tables have a union, and the outputs together hold just what is kept of it. The bytes
-- of each read as a table of its entries. How the entries are cut makes no difference.
pub record KeptOutputs (cmp : KeyOrder) (tables : List NumberedContents) (p : PickedInputs)
    (r : Readable) : Type 0 where
  pub union : List Entry
  pub outputs : List Output
  pub is_union : IsUnion cmp (entries_of_inputs tables p) union
  pub holds_kept : IsPermutation (kept cmp r p.deeper union)
      (entries_of_lists (output_entries outputs))
  pub read : All (λ (w : Output). table_reading cmp w.bytes ≡ Ok w.entries) outputs

-- An edit puts such outputs, which are an answer's tables, in the place of the inputs: it deletes
-- just these, has the outputs as new files of the next level, and makes the version after.
pub record TakePlace (cmp : KeyOrder) (v : State) (tables : List NumberedContents)
    (p : PickedInputs) (r : Readable) (answer : Answer) (e : Edit) (after : State) : Type 0 where
  pub held : KeptOutputs cmp tables p r
  pub answer_tables : answer.tables ≡ numbered_tables held.outputs
  pub deleted : e.deleted ≡ deletions_of p.files
  pub added : e.added ≡ map (new_file (p.level + 1)) held.outputs
  pub applies : applied v e ≡ Some after

-- The numbers of a version's files are below next file, and the ranges of those of each level from
-- 1 on are disjoint.
pub record AreInOrder (cmp : KeyOrder) (v : State) : Type 0 where
  pub below_next : All (λ (f : NewFile). IsBelowNextFile v.next_file f.meta.number) v.files
  pub disjoint : (f g : NewFile) → Contains v.files f → Contains v.files g → f.level ≡ g.level →
      0 < f.level → f.meta.number ≢ g.meta.number → AreDisjoint cmp f.meta g.meta

-- The version after is lawful with the tables after, and each get at a readable sequence answers as
-- before.
pub record ReadAsBefore (cmp : KeyOrder) (v : State) (tables : List NumberedContents)
    (p : PickedInputs) (r : Readable) (answer : Answer) (after : State) : Type 0 where
  pub lawful : IsLawful cmp after (tables_after cmp p answer tables)
  pub gets : (user : List ℕ) (at : ℕ) → is_read r at ≡ true →
      get_of after (tables_after cmp p answer tables) user at ≡ get_of v tables user at

-- Let inputs be over a lawful version with files at levels up to 6, and let outputs take their
-- place. Then each file after has its table. If moreover the files after are in order, that version
-- is lawful, and reads survive.
pub record KeptReadsSurvive (cmp : KeyOrder) : Type 0 where
  pub files : (v : State) (tables : List NumberedContents) (p : PickedInputs) (r : Readable)
      (answer : Answer) (e : Edit) (after : State) →
      IsLawful cmp v tables → AreInputsOver cmp v p →
      TakePlace cmp v tables p r answer e after →
      All (λ (f : NewFile). IsFileOf cmp (tables_after cmp p answer tables) f.meta) after.files
  pub survive : (v : State) (tables : List NumberedContents) (p : PickedInputs) (r : Readable)
      (answer : Answer) (e : Edit) (after : State) →
      IsLawful cmp v tables → All (λ (f : NewFile). f.level ≤ LAST_LEVEL) v.files →
      AreInputsOver cmp v p → TakePlace cmp v tables p r answer e after → AreInOrder cmp after →
      ReadAsBefore cmp v tables p r answer after
