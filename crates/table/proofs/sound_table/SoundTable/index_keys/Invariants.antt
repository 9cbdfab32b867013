use Rattle.std.proofs.Common.{◌≡◌, ◌++◌, map, length}
use Rattle.ikey.specs.Key.{user_of}
use Rattle.table.specs.EntryTests.{HaveKeys}
use Rattle.table.proofs.sound_table.SoundTable.index_keys.Given as goal

abbrev pub invariant-loop-users : goal.invariant-loop-users
invariant-loop-users g l = record {
  users : l.users ++ map (λ e. user_of e.key) l.entries ≡ map (λ e. user_of e.key) l.initial.entries;
  keys : HaveKeys l.entries;
}

abbrev pub decreases-loop-users : goal.decreases-loop-users
decreases-loop-users g l = length l.entries
