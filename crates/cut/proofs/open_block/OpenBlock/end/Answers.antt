use Rattle.std.proofs.Common.{◌≡◌, [], sym, ap, subst}
use Rattle.cut.specs.BlockInProgress.{IsMetered}
use Rattle.cut.proofs.Metered.{metered_first}
use Rattle.cut.proofs.open_block.OpenBlock.end.Goals as goal

pub invariant_of-self : goal.invariant_of-self
invariant_of-self c =
    let none : c.at-self-inside.result.entries ≡ [] = ap (λ s. s.entries) c.at-self-inside.ensures in
    let eight : c.replace-len.new.dest ≡ 8 = c.replace-len.ensures.after in
    subst (λ q. IsMetered c.self.inside.interval q c.replace-len.new.dest 0) (sym none)
    (subst (λ n. IsMetered c.self.inside.interval [] n 0) (sym eight) (metered_first c.self.inside.interval c.self.invariant.positive c.self.invariant.limited))
