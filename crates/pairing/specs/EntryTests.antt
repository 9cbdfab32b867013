-- The tests of a file's entries, in their order.
use Rattle.std.specs.Prelude.{ℕ, nat_lt, if◌then◌else◌, List, [], ◌∷◌, length, Option}
use Rattle.std.specs.Prelude.{Some, Result, Ok, Err}
use Rattle.ikey.specs.Answers.{fault, ◌>>=◌}
use Rattle.ikey.specs.fault.Fault.{Fault}
use Rattle.ikey.specs.fault.FaultName.TheVariants.{TooLarge, Order}
use Rattle.block.specs.EncodedEntry.{Entry}
use Rattle.ikey.specs.Bytewise.{bytewise_cmp}
use Rattle.ikey.specs.Key.{internal_key_reading}
use Rattle.table.specs.EntryTests.{is_above}
use Rattle.table.specs.declared.table_check.TheConstants.{MAX_VALUE_LEN}

-- The tests of an entry after this key. Its key is an internal key, and its user key is within its
-- limit. Its value is within its limit. Its key is above the one before it.
abbrev pub file_entry_test : Option (List ℕ) → List ℕ → List ℕ → Result (List ℕ) Fault
file_entry_test before key value = do
  internal ← internal_key_reading key
  if nat_lt MAX_VALUE_LEN (length value) then Err (fault TooLarge)
      else if is_above bytewise_cmp before key
      then Ok internal else Err (fault Order)

-- the entries, if each passes its tests after the one before it; else the first test that fails
abbrev pub tested_after : Option (List ℕ) → List Entry → Result (List Entry) Fault
tested_after before [] = Ok []
tested_after before (e ∷ es) = do
  key ← file_entry_test before e.key e.value
  others ← tested_after (Some e.key) es
  Ok (e ∷ others)
