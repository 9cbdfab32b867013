-- Tested entries as contracts see them, and their union in a range of user keys.
use Rattle.std.specs.Prelude.{ℕ, ◌≤◌, Bool, true, if◌then◌else◌, List, [], ◌∷◌, length, map, Option}
use Rattle.std.specs.Prelude.{Some, None, Result, Ok, Err}
use Rattle.std.specs.Ordering.{is_lt}
use Rattle.ikey.specs.Answers.{fault, ◌>>=◌}
use Rattle.ikey.specs.fault.Fault.{Fault}
use Rattle.ikey.specs.fault.FaultName.TheVariants.{Duplicate}
use Rattle.ikey.specs.Bytewise.{bytewise_cmp}
use Rattle.merge.specs.MergedLists.{merged}
use Rattle.merge.specs.Union.{key_version_cmp}
use Rattle.block.specs.EncodedEntry.{Entry}
use Rattle.pairing.specs.declared.tested_entry.TestedEntry.{TestedEntry}
use Rattle.table.specs.declared.table_check.TheConstants.{MAX_VALUE_LEN}

abbrev pub tested_entry : TestedEntry → Entry
tested_entry t = record { key = t.key; value = t.value.now }

abbrev pub tested_entries : List TestedEntry → List Entry
tested_entries ts = map tested_entry ts

-- the key of the last entry; if there is none, the key before
abbrev pub last_key_or : Option (List ℕ) → List Entry → Option (List ℕ)
last_key_or before [] = before
last_key_or before (e ∷ es) = last_key_or (Some e.key) es

-- the value is within its limit
abbrev pub IsLimited : Entry → Type 0
IsLimited e = length e.value ≤ MAX_VALUE_LEN

-- whether a key is after the one before it, if there is one, by user key and falling sequence
abbrev pub is_after_key : Option (List ℕ) → List ℕ → Bool
is_after_key None key = true
is_after_key (Some before) key = is_lt (key_version_cmp bytewise_cmp before key)

-- the entries, if each is after the one before it, by user key and falling sequence; else Duplicate
abbrev pub distinct_after : Option (List ℕ) → List Entry → Result (List Entry) Fault
distinct_after before [] = Ok []
distinct_after before (e ∷ es) =
    if is_after_key before e.key then (distinct_after (Some e.key) es >>= λ others. Ok (e ∷ others))
    else Err (fault Duplicate)

-- the union of the files' entries in a range, or Duplicate
abbrev pub union_of : List (List Entry) → Result (List Entry) Fault
union_of parts = distinct_after None (merged bytewise_cmp parts)

-- the unions of two ranges
abbrev pub unions_of : List (List Entry) → List (List Entry) → List (Result (List Entry) Fault)
unions_of before from = union_of before ∷ union_of from ∷ []
