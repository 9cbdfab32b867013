-- What the check of an input answers.
use Rattle.std.specs.Prelude.{ℕ, Bool, ◌&&◌, if◌then◌else◌, List, Result, Ok, Err}
use Rattle.ikey.specs.Answers.{◌>>=◌}
use Rattle.ikey.specs.fault.Fault.{Fault}
use Rattle.ikey.specs.Comparator.{KeyOrder}
use Rattle.table.specs.Tallies.{tally_of}
use Rattle.table.specs.declared.tally.Tally.{Tally}
use Rattle.edit.specs.declared.meta.FileMeta.{FileMeta}
use Rattle.compact.specs.Inputs.{input_reading}
use Rattle.c_api.specs.Codes.{coded}
use Rattle.c_api.specs.Files.{has_keys, meta_at}
use Rattle.c_api.specs.Orders.{by_order}
use Rattle.c_api.specs.Places.{is_within, part_at}
use Rattle.c_api.specs.declared.code.TheConstants.{MISUSE}
use Rattle.c_api.specs.declared.input.Counts.{Counts}
use Rattle.c_api.specs.declared.input.Input.{Input}

-- whether the keys and the table of an input lie in what is lent
abbrev pub is_input : List ℕ → List ℕ → Input → Bool
is_input keys tables input = has_keys keys input.file && is_within tables input.table

-- what is told of a tally
abbrev pub counts_of : Tally → Counts
counts_of t = record {
  entries = t.entries;
  oldest = t.oldest;
  newest = t.newest;
  has_twins = if t.has_twins then 1 else 0;
}

-- what is counted of an input's entries, or the first test that its table fails
abbrev pub counts_reading : FileMeta → List ℕ → KeyOrder → Result Counts Fault
counts_reading meta bytes cmp = do
  entries ← input_reading cmp meta bytes
  Ok (counts_of (tally_of entries))

-- the same of an input of the host's, in the order of this number; MISUSE if it isn't all lent
abbrev pub table_answer : ℕ → List ℕ → List ℕ → Input → Result Counts ℕ
table_answer order keys tables input =
    if is_input keys tables input
    then coded (by_order order
    (counts_reading (meta_at keys input.file) (part_at tables input.table)))
    else Err MISUSE
