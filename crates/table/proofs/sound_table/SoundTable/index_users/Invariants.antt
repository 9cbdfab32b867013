use Rattle.std.proofs.Common.{◌≡◌, ◌++◌, map, length}
use Rattle.ikey.specs.Key.{user_of}
use Rattle.table.specs.EntryTests.{HaveKeys}
use Rattle.table.proofs.sound_table.SoundTable.index_users.Given as goal

abbrev pub invariant-loop-alloc : goal.invariant-loop-alloc
invariant-loop-alloc g l = record {
  users : map (λ user. user.items) l.users.items ++ map (λ e. user_of e.key) l.entries ≡ map (λ e. user_of e.key) l.initial.entries;
  keys : HaveKeys l.entries;
}

abbrev pub decreases-loop-alloc : goal.decreases-loop-alloc
decreases-loop-alloc g l = length l.entries
