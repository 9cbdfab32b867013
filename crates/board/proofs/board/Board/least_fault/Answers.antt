use Rattle.std.proofs.Common.{◌≡◌, ◌<◌, ◌≤◌, ◌^◌, ℕ, [], IfNone, subst, arith}
use Rattle.board.specs.Shares.{times}
use Rattle.board.specs.Progress.{Progress, no_fault}
use Rattle.board.proofs.Counts.{none_found}
use Rattle.board.proofs.board.Board.least_fault.Goals as goal

pub returns-clause-none : goal.returns-clause-none
returns-clause-none c =
    let inv = c.seat.invariant.0 in
    let few : c.seat.inside.token.me.0.jobs ≤ 2 ^ 40 = omega (arith, inv.extent.0, inv.few.1) in
    subst (λ (p : Progress). IfNone c.fault_at.result ((p.failed ≡ []) × ((x : ℕ) → 0 < times x p.looked → x ≡ no_fault))) c.seat.view_is
    (none_found c.fault_at.result _ _ c.fault_at.ensures.word c.look.ensures.least few)
