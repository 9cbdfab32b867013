use Rattle.std.proofs.Common.{◌≡◌, ◌<◌, ℕ, true, List, ◌++◌, map, take, sym, ap, subst, ◌∙◌}
use Rattle.block.specs.EncodedEntry.{Entry}
use Rattle.cut.specs.OutputCuts.{OutputsInProgress, outputs_left}
use Rattle.cut.specs.OutputInProgress.{OutputInProgress, entries_in_blocks, ends_by}
use Rattle.cut.specs.Outputs.{outputs_after}
use Rattle.cut.proofs.Cuts.{ended_then, from_three}
use Rattle.cut.proofs.output_cuts.Cutting.step.Goals as goal
use Rattle.cut.proofs.output_cuts.Cutting.step.Goals.{then-ends_before_next+in_ok-end_output, else-ends_before_next}

pub returns-clause-left : goal.returns-clause-left
returns-clause-left c =
    let was : OutputsInProgress = c.args.self.now in
    let s : OutputsInProgress = c.if-ends_before_next.self in
    let outs : List (List Entry) = map (λ b. entries_in_blocks b.items) c.self-2.inside.ended.items in
    let moved : (n : ℕ) → 0 < n → (rest : List Entry) → outputs_left s (take n s.behind ++ rest) ≡ outputs_left was (take n was.behind ++ rest) =
    elim c.if-ends_before_next.branch [
      | then-ends_before_next+in_ok-end_output w ↦ λ n any rest.
          (let ends : ends_by was.options was.latest was.behind ≡ true =
          subst (λ (v : OutputsInProgress). ends_by v.options v.latest v.behind ≡ true) c.self.view_is (sym c.ends_before_next.ensures ∙ w.if-ends_before_next.true) in
          ap (λ (v : OutputsInProgress). outputs_left v (take n v.behind ++ rest)) (w.self-is ∙ w.in_ok-end_output.ensures.ended) ∙ ended_then was n any c.requires.any ends rest)
      | else-ends_before_next w ↦ λ n any rest. ap (λ (v : OutputsInProgress). outputs_left v (take n v.behind ++ rest)) w.self-is
    ] in
    from_three c.take_in.result c.take_in.ensures.ok c.take_in.ensures.some c.take_in.ensures.left
    (λ n new any left rest.
    ap (λ (x : OutputInProgress). outs ++ outputs_after x.options x.entries rest) new
    ∙ ap (λ (ps : List (List Entry)). outs ++ ps) (left rest)
    ∙ ap (λ (v : OutputsInProgress). outputs_left v (take n v.behind ++ rest)) c.self-2.view_is
    ∙ moved n any rest)
