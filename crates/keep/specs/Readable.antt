-- Which sequences stay readable after a compaction.
use Rattle.std.specs.Prelude.{ℕ, nat_eq, nat_le, Bool, ◌||◌, List, []}
use Rattle.std.specs.List.{list_any}
use Rattle.keep.specs.declared.snapshots.Snapshots.{Snapshots}
use Rattle.keep.specs.declared.snapshots.Snapshots.TheVariants.{From, Listed}

-- The readable sequences: each listed one, and the floor and all above it. LevelDB has no list, and
-- the oldest snapshot as the floor. For a list of snapshots the floor is the last sequence.
pub record Readable : Type 0 where
  pub listed : List ℕ
  pub floor : ℕ

-- whether a sequence stays readable
abbrev pub is_read : Readable → ℕ → Bool
is_read r at = list_any (nat_eq at) r.listed || nat_le r.floor at

-- the listed sequences of snapshots
abbrev pub listed_of : Snapshots → List ℕ
listed_of (From oldest) = []
listed_of (Listed list) = list.now

-- the floor of snapshots, in a version with this last sequence
abbrev pub floor_of : Snapshots → ℕ → ℕ
floor_of (From oldest) last = oldest
floor_of (Listed list) last = last

-- the readable sequences of snapshots, in a version with this last sequence
abbrev pub readable_of : Snapshots → ℕ → Readable
readable_of snapshots last =
    record { listed = listed_of snapshots; floor = floor_of snapshots last }
