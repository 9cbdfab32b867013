use Rattle.std.proofs.Common.{◌≡◌, drop, map, string_bytes}
use Rattle.std.specs.List.{find}
use Rattle.install.specs.PendingCurrent.{is_pending_current}
use Rattle.install.proofs.pending_names.pending_current.Given as goal

-- the first such name of all is that of the names that are left
abbrev pub invariant-loop-name : goal.invariant-loop-name
invariant-loop-name l = find is_pending_current (map string_bytes (drop l.name-index l.names)) ≡ find is_pending_current (map string_bytes l.names)
