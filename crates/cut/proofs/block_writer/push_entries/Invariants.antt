use Rattle.std.proofs.Common.{◌≡◌, ◌++◌, ◌≤◌, [], length, take, drop}
use Rattle.std.specs.Prelude.{None}
use Rattle.std.specs.List.{last_or}
use Rattle.std.specs.Option.{option_map}
use Rattle.block.specs.BuilderView.{last_key}
use Rattle.cut.proofs.Appended.{IsAppended}
use Rattle.cut.proofs.Walks.{key_of}
use Rattle.cut.proofs.block_writer.push_entries.Given as goal

abbrev pub invariant-loop : goal.invariant-loop
invariant-loop l =
    IsAppended l.fn.interval (take l.counter l.fn.entries.entries) l.fn.out.items l.out.items l.restarts.items (last_key [] (take l.counter l.fn.entries.entries)) l.since
    × (l.walk.rest ≡ drop l.counter (l.fn.entries.entries ++ l.fn.entries.behind))
    × (l.walk.before ≡ option_map key_of (last_or None (take l.counter l.fn.entries.entries)))
    × (l.end ≤ length l.fn.entries.entries)
