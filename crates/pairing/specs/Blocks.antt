-- What the merge of two blocks answers.
use Rattle.std.specs.Prelude.{◌≡◌, ℕ, nat_le, if◌then◌else◌, List, [], ◌∷◌, length, None}
use Rattle.std.specs.Prelude.{Result, Ok, Err}
use Rattle.ikey.specs.Answers.{IsThen, fault, ◌>>=◌}
use Rattle.ikey.specs.fault.Fault.{Fault}
use Rattle.ikey.specs.fault.FaultName.TheVariants.{Duplicate, TooLarge}
use Rattle.block.specs.EncodedEntry.{Entry}
use Rattle.block.specs.BlockFormat.{block}
use Rattle.block.specs.BlockReading.{block_reading}
use Rattle.ikey.specs.Bytewise.{bytewise_cmp}
use Rattle.merge.specs.Union.{IsUnion}
use Rattle.pairing.specs.EntryTests.{tested_after}
use Rattle.pairing.specs.declared.two_blocks.TheConstants.{INTERVAL}
use Rattle.table.specs.declared.table_check.TheConstants.{MAX_TABLE_LEN}

-- the block of entries at INTERVAL; TooLarge if it has more than MAX_TABLE_LEN bytes
abbrev pub block_within : List Entry → Result (List ℕ) Fault
block_within entries =
    if nat_le (length (block INTERVAL entries)) MAX_TABLE_LEN then Ok (block INTERVAL entries)
    else Err (fault TooLarge)

-- What the tests of a file answer: Block if the bytes aren't a block; else its entries, if each
-- passes its tests; else the first test that fails.
abbrev pub IsFileAnswer : List ℕ → Result (List Entry) Fault → Type 0
IsFileAnswer bytes answer = answer ≡ (block_reading bytes >>= tested_after None)

-- the union of two files; Duplicate if there is none
abbrev pub IsUnionAnswer : List Entry → List Entry → Result (List Entry) Fault → Type 0
IsUnionAnswer a b (Ok union) = IsUnion bytewise_cmp (a ∷ b ∷ []) union
IsUnionAnswer a b (Err e) = ((union : List Entry) → IsUnion bytewise_cmp (a ∷ b ∷ []) union → ⊥)
    × (e ≡ fault Duplicate)

-- the number of entries, and their block; or TooLarge
abbrev pub counted_block : List Entry → Result (ℕ × List ℕ) Fault
counted_block union = block_within union >>= λ bytes. Ok (length union, bytes)

-- What two files answer: A is tested, then B; then their union is taken, and written as a block.
abbrev pub IsBlocksAnswer : List ℕ → List ℕ → Result (ℕ × List ℕ) Fault → Type 0
IsBlocksAnswer a b = IsThen (IsFileAnswer a) (λ entries_a. IsThen (IsFileAnswer b) (λ entries_b.
    IsThen (IsUnionAnswer entries_a entries_b) (λ union answer. answer ≡ counted_block union)))

-- Both files read as blocks. The bytes are the block of the union of their entries, and count is
-- the number of these.
pub record AreBlocksMerged (a b : List ℕ) (count : ℕ) (merged : List ℕ) : Type 0 where
  pub entries_a : List Entry
  pub entries_b : List Entry
  pub read_a : block_reading a ≡ Ok entries_a
  pub read_b : block_reading b ≡ Ok entries_b
  pub union : List Entry
  pub is_union : IsUnion bytewise_cmp (entries_a ∷ entries_b ∷ []) union
  pub counted : count ≡ length union
  pub written : merged ≡ block INTERVAL union
