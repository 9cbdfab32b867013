use Rattle.std.proofs.Common.{ℕ, ◌∷◌, ◌++◌, [], ap, sym, subst, refl}
use Rattle.board.specs.Progress.{Progress}
use Rattle.board.specs.RunAnswer.{IsFaultOf}
use Rattle.board.specs.WorkerResult.{IsLeastFailed}
use Rattle.board.proofs.Workings.{least_one, works_fail}
use Rattle.board.proofs.worker.refuse.Goals as goal

pub returns : goal.returns
returns g c =
    let refusal = g.L.Labour.refusal c.args.labour.now in
    let failed = c.args.shift.now.seat.failed in
    let h = c.requires.drawn.works in
    let one = least_one refusal c.number.result c.args.fault (subst (λ (x : ℕ). IsFaultOf refusal x c.args.fault) (sym c.number.ensures) c.requires.fault) in
    let least = c.least_of-shift.ensures refusal failed (c.number.result ∷ []) h.refused one in record {
      works = works_fail _ _ _ _ _ _ h c.fail.ensures refl (subst (λ (x : ℕ). IsLeastFailed refusal (failed ++ x ∷ []) c.least_of-shift.result) c.number.ensures least);
      drawn = ap (λ (p : Progress). p.drawn) c.fail.ensures;
      empty = ap (λ (p : Progress). p.empty) c.fail.ensures;
    }
