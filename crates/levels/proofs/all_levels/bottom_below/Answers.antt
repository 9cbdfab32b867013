use Rattle.std.proofs.Common.{Option, subst, ℕ}
use Rattle.store.specs.Descent.{IsNextLevel}
use Rattle.levels.proofs.all_levels.bottom_below.Goals as goal

pub next_level-requires : goal.next_level-requires
next_level-requires c = c.in_ok-bottom.ensures.bottom.1

pub returns-in-None-clause-bottom : goal.returns-in-None-clause-bottom
returns-in-None-clause-bottom c =
    (c.in_ok-bottom.bottom, c.in_ok-bottom.ensures.bottom, subst (λ (n : Option ℕ). IsNextLevel c.args.version.now c.in_ok-bottom.bottom n) c.in-None.is c.in_ok-next_level.ensures.next)
