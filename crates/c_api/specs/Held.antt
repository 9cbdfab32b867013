-- What the code holds, as definitions see it.
use Rattle.std.specs.Prelude.{◌≡◌, ℕ, Bool, ◌&&◌, List, [], ◌∷◌, map, filter, Result, Ok, None}
use Rattle.std.specs.List.{list_all}
use Rattle.ikey.specs.Answers.{◌>>=◌}
use Rattle.ikey.specs.fault.Fault.{Fault}
use Rattle.ikey.specs.Comparator.{KeyOrder}
use Rattle.table.specs.BuilderView.{TableBuilding}
use Rattle.table.specs.EncodedEntry.{Entry}
use Rattle.table.specs.EntryTests.{entries_test}
use Rattle.table.specs.declared.options.Options as declared
use Rattle.edit.specs.declared.meta.FileMeta.{FileMeta}
use Rattle.pick.specs.PickedInputs.{PickedInputs}
use Rattle.pick.specs.Ranges.{overlaps}
use Rattle.pick.specs.declared.picked_inputs.Inputs.{Inputs}
use Rattle.keep.specs.Marks.{CompactionContext, context_of}
use Rattle.keep.specs.Readable.{floor_of, listed_of}
use Rattle.c_api.specs.Boundaries.{AreBoundaries, AreChosen, AskedBoundaries, KeyArrays}
use Rattle.c_api.specs.Boundaries.{arrays_of_keys, key_arrays}
use Rattle.c_api.specs.Edits.{AskedEdit, edit_over}
use Rattle.c_api.specs.Files.{has_keys, meta_at}
use Rattle.c_api.specs.Merges.{AskedMerge}
use Rattle.c_api.specs.Plans.{AskedPlan, plan_over}
use Rattle.c_api.specs.Requests.{picked_with, request_reading, snapshots_of}
use Rattle.c_api.specs.ToldRuns.{after_entry}
use Rattle.c_api.specs.declared.edit_calls.LentEdit.{LentEdit}
use Rattle.c_api.specs.declared.file.File.{File}
use Rattle.c_api.specs.declared.key_arrays.KeyArrays as key_lists
use Rattle.c_api.specs.declared.lent.Lent.{Lent}
use Rattle.c_api.specs.declared.lent.LentFiles.{LentFiles}
use Rattle.c_api.specs.declared.plan_calls.LentPlan.{LentPlan}
use Rattle.c_api.specs.declared.run_arrays.EntryLengths.{EntryLengths}

-- the bytes after them
abbrev pub entries_passed : List ℕ → List EntryLengths → List ℕ
entries_passed bytes [] = bytes
entries_passed bytes (l ∷ ls) = entries_passed (after_entry bytes l) ls

-- the same, if the code holds what is known of the deeper files
abbrev pub context_with : AskedMerge → Inputs → CompactionContext
context_with m inputs = context_of (listed_of m.snapshots)
    (floor_of m.snapshots m.request.last_sequence) inputs

-- the plan that the code holds
abbrev pub plan_in : LentPlan → AskedPlan
plan_in l = plan_over l.lent.now l.files.now l.runs.now

-- the edit that the code holds
abbrev pub edit_held : LentEdit → AskedEdit
edit_held l = edit_over l.lent.now l.files.now l.numbers.now l.added.now

-- the table that is being written after all entries, or the first test that one fails
abbrev pub entries_reading : declared.Options → List Entry → KeyOrder → Result TableBuilding Fault
entries_reading o entries cmp = do
  _ ← entries_test cmp None entries
  Ok (record { options = o; entries = entries })

-- whether the range of a file that is lent overlaps that of files
abbrev pub overlaps_at : KeyOrder → List ℕ → List FileMeta → File → Bool
overlaps_at cmp keys metas file = overlaps cmp metas (meta_at keys file)

-- those of the deeper files whose range overlaps that of files
abbrev pub near_of : KeyOrder → List ℕ → List File → List File → List File
near_of cmp keys files deeper = filter (overlaps_at cmp keys (map (meta_at keys) files)) deeper

-- whether all keys of the files, and of the deeper ones, are internal keys that are lent
abbrev pub have_all_keys : LentFiles → Bool
have_all_keys l = list_all (has_keys l.lent.now.keys.now) l.files.now
    && list_all (has_keys l.lent.now.keys.now) l.lent.now.deeper.now

-- the tests of a request without its tables, if the code holds the files of the inputs
abbrev pub tested_in : LentFiles → KeyOrder → Result (Unit {0}) Fault
tested_in l cmp = request_reading l.lent.now.keys.now l.lent.now.request
    (snapshots_of l.lent.now.request l.lent.now.snapshots) l.files.now l.lent.now.deeper.now cmp

-- the inputs with this compact pointer, if the code holds their files
abbrev pub picked_over : KeyOrder → LentFiles → List ℕ → PickedInputs
picked_over cmp l key = picked_with cmp l.lent.now.keys.now l.lent.now.request.level l.files.now
    l.lent.now.deeper.now key

-- the arrays that the code holds
abbrev pub keys_in : key_lists.KeyArrays → KeyArrays
keys_in a = key_arrays a.bytes.items a.lengths.items

-- arrays tell chosen boundaries, in an order and in that of its number
abbrev pub TellChosen : KeyOrder → AskedBoundaries → KeyArrays → Type 0
TellChosen cmp m a =
    (boundaries : List (List ℕ)) × AreChosen cmp m boundaries × (a ≡ arrays_of_keys boundaries)

abbrev pub TellBoundaries : AskedBoundaries → KeyArrays → Type 0
TellBoundaries m a =
    (boundaries : List (List ℕ)) × AreBoundaries m boundaries × (a ≡ arrays_of_keys boundaries)
