-- The tests of a table's entries, in order.
use Rattle.std.specs.Prelude.{◌≡◌, ℕ, nat_le, Bool, true, false, List, [], ◌∷◌, length, Option}
use Rattle.std.specs.Prelude.{Some, None, Result, Ok}
use Rattle.std.specs.List.{AllByRecursion}
use Rattle.std.specs.Ordering.{is_lt}
use Rattle.coding.specs.Answers.{◌>>=◌}
use Rattle.coding.specs.declared.fault.Fault.{Fault}
use Rattle.coding.specs.declared.fault.FaultName.TheVariants.{TooLarge, Order, Empty}
use Rattle.block.specs.EncodedEntry.{Entry}
use Rattle.block.specs.BuilderView.{last_key}
use Rattle.ikey.specs.Key.{IsInternalKey, internal_key_reading}
use Rattle.ikey.specs.Order.{internal_cmp}
use Rattle.ikey.specs.Comparator.{KeyOrder}
use Rattle.table.specs.TestResult.{test_result}
use Rattle.table.specs.declared.table_check.TheConstants.{MAX_VALUE_LEN}

-- the key of the first entry
abbrev pub first_key : List Entry → List ℕ
first_key [] = []
first_key (e ∷ es) = e.key

-- the key of the last entry; `before` if there is none
abbrev pub last_key_after : Option (List ℕ) → List Entry → Option (List ℕ)
last_key_after before [] = before
last_key_after before (e ∷ es) = Some (last_key e.key es)

-- whether an internal key is above the one before it, if there is one
abbrev pub is_above : KeyOrder → Option (List ℕ) → List ℕ → Bool
is_above cmp None key = true
is_above cmp (Some before) key = is_lt (internal_cmp cmp before key)

-- The tests of an entry after the key `before`:
-- - its key is an internal key (Key) and within its limit (TooLarge);
-- - its value is within its limit (TooLarge);
-- - its key is above `before` (Order).
abbrev pub entry_test : KeyOrder → Option (List ℕ) → Entry → Result (Unit {0}) Fault
entry_test cmp before e = do
  _ ← internal_key_reading e.key
  _ ← test_result (nat_le (length e.value) MAX_VALUE_LEN) TooLarge
  test_result (is_above cmp before e.key) Order

-- each entry passes its tests after the one before it, the first after the key `before`
abbrev pub entries_test : KeyOrder → Option (List ℕ) → List Entry → Result (Unit {0}) Fault
entries_test cmp before [] = Ok tt
entries_test cmp before (e ∷ es) = do
  _ ← entry_test cmp before e
  entries_test cmp (Some e.key) es

-- whether there is an element
abbrev pub is_some_list : {A : Type 0} → List A → Bool
is_some_list [] = false
is_some_list (x ∷ xs) = true

-- the tests of a data block after the key `before`: it has an entry (Empty), and each passes its
-- tests
abbrev pub data_test : KeyOrder → Option (List ℕ) → List Entry → Result (Unit {0}) Fault
data_test cmp before entries = do
  _ ← test_result (is_some_list entries) Empty
  entries_test cmp before entries

-- each key is an internal key
abbrev pub HaveKeys : List Entry → Type 0
HaveKeys entries = AllByRecursion (λ e. internal_key_reading e.key ≡ Ok e.key) entries

-- the same, and each key is bytes
abbrev pub HaveInternalKeys : List Entry → Type 0
HaveInternalKeys entries = AllByRecursion (λ e. IsInternalKey e.key) entries
