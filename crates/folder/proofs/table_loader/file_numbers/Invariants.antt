use Rattle.std.proofs.Common.{◌≡◌, ◌++◌, ◌-◌}
use Rattle.folder.specs.Levels.{by_level, file_numbers, numbers_at}
use Rattle.folder.proofs.table_loader.file_numbers.Given as goal

-- the numbers so far, and those of the levels that are left, are all
abbrev pub invariant-loop-level : goal.invariant-loop-level
invariant-loop-level g l =
    let cmp = g.C.Comparator.cmp in
    l.numbers.items ++ by_level (numbers_at cmp l.version) l.level (7 - l.level) ≡ file_numbers cmp l.version
