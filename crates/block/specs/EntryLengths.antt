-- The lengths at the front of an encoded entry.
use Rattle.std.specs.Prelude.{ℕ, List, Option, Some}
use Rattle.coding.specs.Answers.{and_then}
use Rattle.block.specs.EntryFormat.{FieldReading, length_at}

-- the lengths of an encoded entry
pub record EntryLengths : Type 0 where
  pub shared : ℕ
  pub unshared : ℕ
  pub value : ℕ

-- the three lengths at the front of bytes
abbrev pub lengths_at : List ℕ → Option (FieldReading EntryLengths)
lengths_at bytes =
    and_then (length_at bytes) (λ shared.
    and_then (length_at shared.rest) (λ unshared.
    and_then (length_at unshared.rest) (λ value.
    Some (record {
      field = record {
        shared = shared.field;
        unshared = unshared.field;
        value = value.field;
      };
      rest = value.rest;
    }))))
