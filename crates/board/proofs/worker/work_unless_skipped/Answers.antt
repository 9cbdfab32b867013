use Rattle.std.proofs.Common.{ℕ, [], ◌∷◌, ◌++◌, refl, subst, ap, ◌∙◌}
use Rattle.board.specs.Progress.{Progress, after_done}
use Rattle.board.specs.RunAnswer.{IsResult}
use Rattle.board.proofs.Workings.{works_skip, works_done}
use Rattle.board.proofs.worker.work_unless_skipped.Goals as goal

pub returns-in_default : goal.returns-in_default
returns-in_default g c =
    let n = c.in_default.ensures.none in record {
      works = works_skip _ _ _ _ _ _ n.0 c.requires.drawn.works n.3 refl refl;
      drawn = ap (λ (p : Progress). p.drawn) n.3;
      empty = ap (λ (p : Progress). p.empty) n.3;
    }

pub returns : goal.returns
returns g c =
    let n = c.in-Some.ensures.some in
    let is = c.number-number.ensures ∙ n.0 in
    let seat = c.done.ensures ∙ (λ i. after_done (n.1.3 i) (n.0 i)) in record {
      works = works_done _ _ _ _ _ _ n.1.0 c.in-Ok.out c.requires.drawn.works seat
          (c.in-Ok-push.ensures.items ∙ ap (λ (x : ℕ). c.args.shift.now.results.items ++ (x, c.in-Ok.out) ∷ []) is)
          refl
          (subst (λ (x : ℕ). IsResult (g.L.Labour.refusal c.args.labour.now) (g.L.Labour.gives c.args.labour.now) (x, c.in-Ok.out)) is c.in-Ok.ensures.ok);
      drawn = ap (λ (p : Progress). p.drawn) seat;
      empty = ap (λ (p : Progress). p.empty) seat;
    }
