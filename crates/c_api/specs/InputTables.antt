-- The tables of inputs that were checked.
use Rattle.std.specs.Prelude.{◌≡◌, ℕ, nat_eq, not, List, [], Result, Ok, Err}
use Rattle.std.specs.List.{AllByRecursion}
use Rattle.ikey.specs.Comparator.{KeyOrder}
use Rattle.ikey.specs.fault.Fault.{Fault}
use Rattle.reads.specs.EncodedEntry.{Entry}
use Rattle.table.specs.declared.bounds.Bounds.{Bounds}
use Rattle.table.specs.declared.tally.Tally.{Tally}
use Rattle.compact.specs.Inputs.{input_reading}
use Rattle.c_api.specs.Files.{meta_at}
use Rattle.c_api.specs.Places.{part_at}
use Rattle.c_api.specs.Tables.{counts_reading}
use Rattle.c_api.specs.declared.input.Counts.{Counts}
use Rattle.c_api.specs.declared.input.Input.{Input}

-- an input was checked in this order, and has what its check counted
abbrev pub IsRead : KeyOrder → List ℕ → List ℕ → Input → Type 0
IsRead cmp keys tables i =
    counts_reading (meta_at keys i.file) (part_at tables i.table) cmp ≡ Ok i.counts

-- each input was
abbrev pub AreRead : KeyOrder → List ℕ → List ℕ → List Input → Type 0
AreRead cmp keys tables inputs = AllByRecursion (IsRead cmp keys tables) inputs

-- the tally of which this is told
abbrev pub tally_in : Counts → Tally
tally_in c = record {
  entries = c.entries;
  oldest = c.oldest;
  newest = c.newest;
  has_twins = not (nat_eq c.has_twins 0);
}

-- what an input's check found beside its bytes
abbrev pub bounds_at : List ℕ → Input → Bounds
bounds_at keys i = record {
  smallest = part_at keys i.file.smallest;
  largest = part_at keys i.file.largest;
  tally = tally_in i.counts;
}

-- the entries that were read, none if some test failed
abbrev pub entries_read : Result (List Entry) Fault → List Entry
entries_read (Ok entries) = entries
entries_read (Err e) = []

-- the entries of an input
abbrev pub entries_at : KeyOrder → List ℕ → List ℕ → Input → List Entry
entries_at cmp keys tables i =
    entries_read (input_reading cmp (meta_at keys i.file) (part_at tables i.table))
