-- The tables of a version, each checked.
use Rattle.std.specs.Prelude.{ℕ, List, [], ◌∷◌, Result, Ok}
use Rattle.ikey.specs.Answers.{◌>>=◌}
use Rattle.ikey.specs.fault.Fault.{Fault}
use Rattle.ikey.specs.Comparator.{KeyOrder}
use Rattle.table.specs.TableContents.{contents_reading}
use Rattle.reads.specs.Tables.{NumberedContents}

-- the table of a number, or the first test that its bytes fail
abbrev pub numbered_reading : KeyOrder → ℕ × List ℕ → Result NumberedContents Fault
numbered_reading cmp table = contents_reading cmp table.1 >>=
    λ contents. Ok (record { number = table.0; contents = contents })

-- all tables in order, or the refusal of the first that is invalid
abbrev pub tables_reading : KeyOrder → List (ℕ × List ℕ) → Result (List NumberedContents) Fault
tables_reading cmp [] = Ok []
tables_reading cmp (t ∷ ts) = do
  first ← numbered_reading cmp t
  others ← tables_reading cmp ts
  Ok (first ∷ others)
