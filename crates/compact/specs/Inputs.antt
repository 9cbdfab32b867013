-- The tests of the inputs, and their union.
use Rattle.std.specs.Prelude.{ℕ, ◌+◌, Bool, if◌then◌else◌, List, [], ◌∷◌, length}
use Rattle.std.specs.Prelude.{Some, Result, Ok, Err}
use Rattle.ikey.specs.Answers.{fault, ◌>>=◌}
use Rattle.ikey.specs.fault.Fault.{Fault}
use Rattle.ikey.specs.fault.FaultName.TheVariants.{Bounds, Duplicate}
use Rattle.ikey.specs.Comparator.{KeyOrder}
use Rattle.table.specs.EncodedEntry.{Entry}
use Rattle.reads.specs.BuilderView.{last_key}
use Rattle.table.specs.TableContents.{Contents, contents_reading}
use Rattle.table.specs.EntryTests.{first_key}
use Rattle.table.specs.TestResult.{test_result}
use Rattle.edit.specs.declared.meta.FileMeta.{FileMeta}
use Rattle.reads.specs.MergedLists.{merged}
use Rattle.pick.specs.declared.picked_inputs.InputFile.{InputFile}
use Rattle.reads.specs.Bounds.{has_bounds}
use Rattle.keep.specs.Runs.{are_distinct}

-- a fault gets the place of the input that it is about
abbrev pub result_at_input : {A : Type 0} → ℕ → Result A Fault → Result A Fault
result_at_input place (Ok x) = Ok x
result_at_input place (Err e) = Err (record e { input = Some place })

-- whether a table's length, first and last key are those that the version states
abbrev pub table_matches_metadata : FileMeta → Contents → Bool
table_matches_metadata f table =
    has_bounds f (length table.bytes) (first_key table.entries) (last_key [] table.entries)

-- the entries of an input's table, or the first test that fails: those of a table, then Bounds
abbrev pub input_reading : KeyOrder → FileMeta → List ℕ → Result (List Entry) Fault
input_reading cmp f bytes = do
  table ← contents_reading cmp bytes
  _ ← test_result (table_matches_metadata f table) Bounds
  Ok table.entries

-- The entries of each input, the first of which is at `place`; or the fault of the first input that
-- is refused, with its place.
abbrev pub inputs_reading : KeyOrder → ℕ → List InputFile → List (List ℕ) →
    Result (List (List Entry)) Fault
inputs_reading cmp place (i ∷ is) (bytes ∷ others) = do
  entries ← result_at_input place (input_reading cmp i.meta bytes)
  rest ← inputs_reading cmp (place + 1) is others
  Ok (entries ∷ rest)
inputs_reading cmp place _ _ = Ok []

-- the union of the inputs; Duplicate if a user key has one sequence twice
abbrev pub union_reading : KeyOrder → List (List Entry) → Result (List Entry) Fault
union_reading cmp inputs =
    if are_distinct (merged cmp inputs) then Ok (merged cmp inputs) else Err (fault Duplicate)
