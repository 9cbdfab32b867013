use Rattle.std.proofs.Common.{◌≡◌, ◌++◌, drop, map}
use Rattle.scan.specs.LevelRows.{level_rows}
use Rattle.scan.proofs.level_rows.stats_of.Given as goal

-- what is told so far, and what is left to tell, is all
abbrev pub invariant-loop-level : goal.invariant-loop-level
invariant-loop-level g l =
    let cmp = g.C.Comparator.cmp in
    l.stats.items ++ level_rows cmp l.level (drop l.level (map (λ fs. map (λ f. f.now) fs.items) l.levels)) (drop l.level l.amounts) ≡ level_rows cmp 0 (map (λ fs. map (λ f. f.now) fs.items) l.levels) l.amounts
