use Rattle.std.proofs.Common.{◌≡◌, ◌++◌, ◌-◌, ℕ, List}
use Rattle.folder.specs.Levels.{by_level, file_numbers, numbers_at}
use Rattle.store.specs.VersionSync.{table_syncs}
use Rattle.store.proofs.Runs.{IsWholeRun}
use Rattle.store.proofs.version_sync.sync_levels.Given as goal

-- the tables of some numbers were synced; with those of the levels that are left, these are all
abbrev pub invariant-loop-level : goal.invariant-loop-level
invariant-loop-level g l =
    let cmp = g.C.Comparator.cmp in
    record {
      numbers : List ℕ;
      all : numbers ++ by_level (numbers_at cmp l.version) l.level (7 - l.level) ≡ file_numbers cmp l.version;
      run : IsWholeRun g.F.Folder (table_syncs numbers) l.fn.folder l.folder;
    }
