-- A request over a version, and what a compaction's outputs hold.
use Rattle.std.specs.Prelude.{◌≡◌, ◌≢◌, ℕ, ◌+◌, ◌<◌, ◌≤◌, ◌^◌, List, [], length, map, Option, Some}
use Rattle.std.specs.Prelude.{Ok}
use Rattle.std.specs.List.{All, AllByRecursion}
use Rattle.std.specs.Option.{option_map, ForSome}
use Rattle.ikey.specs.Key.{IsInternalKey}
use Rattle.table.specs.EncodedEntry.{Entry}
use Rattle.table.specs.CheckedContents.{contents_in}
use Rattle.table.specs.TableContents.{Contents, contents_reading}
use Rattle.table.specs.EntriesFrom.{EntriesRise}
use Rattle.edit.specs.Edit.{edit_bytes}
use Rattle.edit.specs.Version.{State}
use Rattle.reads.specs.Union.{IsUnion}
use Rattle.pick.specs.PickedInputs.{IsPicked}
use Rattle.pick.specs.declared.picked_inputs.InputFile.{InputFile}
use Rattle.reads.specs.Lawful.{IsLawful}
use Rattle.reads.specs.Tables.{NumberedContents, table_of_number}
use Rattle.keep.specs.DropRule.{kept}
use Rattle.keep.specs.Readable.{readable_of}
use Rattle.cut.specs.Outputs.{UsersRise}
use Rattle.reads.specs.MergedLists.{entries_of_lists}
use Rattle.compact.specs.Request.{RequestView, request_test}
use Rattle.compact.specs.OutputTables.{Output, numbered_tables}
use Rattle.compact.specs.EditOf.{edit_of, new_files}
use Rattle.compact.specs.OneThread.{Answer, one_thread, table_for}
use Rattle.compact.specs.GetsAfter.{entries_of_inputs}
use Rattle.compact.specs.EditAfter.{AreNumberedFrom}
use Rattle.ikey.specs.Comparator.{KeyOrder, ShortKeys}
use Rattle.table.specs.declared.table_check.TheConstants.{MAX_TABLE_LEN}

-- the bytes of an input's table, if the version's tables have one
abbrev pub input_bytes_of : List NumberedContents → InputFile → Option (List ℕ)
input_bytes_of tables i =
    option_map (λ (t : Contents). t.bytes) (table_of_number tables i.meta.number)

-- A request is over a version with its tables. It has the bytes of the inputs' tables in order, and
-- numbers its outputs from the version's next file on. Its log numbers are below 2 ^ 64.
pub record IsOver (v : State) (tables : List NumberedContents) (r : RequestView) : Type 0 where
  pub bytes : map (input_bytes_of tables) r.picked.files ≡ map (λ b. Some b) r.tables
  pub numbers : ForSome v.next_file (λ next. next ≤ r.first_number)
  pub log_number : r.log_number < 2 ^ 64
  pub previous_log : r.previous_log < 2 ^ 64

-- The bytes are a table of these entries: there is one, their internal keys rise strictly, the
-- bytes are at most MAX_TABLE_LEN, and they read as just these entries.
pub record AreWritten (cmp : KeyOrder) (bytes : List ℕ) (entries : List Entry) : Type 0 where
  pub some : entries ≢ []
  pub keys : AllByRecursion (λ e. IsInternalKey e.key) entries
  pub rising : EntriesRise cmp entries
  pub small : length bytes ≤ MAX_TABLE_LEN
  pub reads : contents_reading cmp bytes ≡ Ok (contents_in cmp bytes)
  pub same : (contents_in cmp bytes).bytes ≡ bytes
  pub holds : (contents_in cmp bytes).entries ≡ entries

-- the entries of each output
abbrev pub output_entries : List Output → List (List Entry)
output_entries outputs = map (λ (w : Output). w.entries) outputs

-- What an answer is made of. The request passes its tests, and the inputs' tables have a union. The
-- outputs are numbered from the first number on and hold what is kept of the union, no user key in
-- two of them. Each is written as a table, and the edit is that of the outputs.
pub record HoldOutputs (cmp : KeyOrder) (short_keys : ShortKeys) (tables : List NumberedContents)
    (r : RequestView) (answer : Answer) : Type 0 where
  pub tested : request_test cmp r ≡ Ok tt
  pub union : List Entry
  pub outputs : List Output
  pub is_union : IsUnion cmp (entries_of_inputs tables r.picked) union
  pub numbered : AreNumberedFrom r.first_number outputs
  pub few : r.first_number + length outputs < 2 ^ 64
  pub holds_kept : entries_of_lists (output_entries outputs)
      ≡ kept cmp (readable_of r.snapshots r.last_sequence) r.picked.deeper union
  pub users : UsersRise cmp (output_entries outputs)
  pub bytes : All (λ (w : Output). w.bytes ≡ table_for cmp short_keys r w.entries)
      outputs
  pub written : All (λ (w : Output). AreWritten cmp w.bytes w.entries) outputs
  pub answer_tables : answer.tables ≡ numbered_tables outputs
  pub answer_edit : answer.edit ≡ edit_bytes (edit_of r (new_files r outputs))

-- each answer of one thread is made so, if the inputs were picked from a lawful version and the
-- request is over it
abbrev pub OutputsHold : KeyOrder → ShortKeys → Type 0
OutputsHold cmp short_keys =
    (v : State) (tables : List NumberedContents) (level : ℕ) (r : RequestView) (answer : Answer) →
    IsLawful cmp v tables → IsPicked cmp v level r.picked → IsOver v tables r →
    one_thread cmp short_keys r ≡ Ok answer →
    HoldOutputs cmp short_keys tables r answer
