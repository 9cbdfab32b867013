use Rattle.levels.proofs.all_levels.+descend.Given as goal

-- how many steps are left
abbrev pub decreases-descend : goal.decreases-descend
decreases-descend g l = l.steps
