use Rattle.std.proofs.Common.{◌≤◌, length, take}
use Rattle.install.specs.Install.{table_calls}
use Rattle.store.proofs.Runs.{IsWholeRun}
use Rattle.store.proofs.planned_installation.write_groups.Given as goal

-- the groups so far are written
abbrev pub invariant-loop-place : goal.invariant-loop-place
invariant-loop-place g l = record {
  within : l.place ≤ length l.planned.groups;
  run : IsWholeRun g.F.Folder (table_calls (take l.place l.planned.groups)) l.fn.folder l.folder;
}
