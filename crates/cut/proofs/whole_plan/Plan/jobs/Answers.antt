use Rattle.std.proofs.Common.{◌≡◌, ◌-◌, ℕ, List, Option, length, get_or, sym, ap, subst, ◌∙◌, arith}
use Rattle.std.specs.Prelude.{unwrap_or}
use Rattle.std.proofs.lemmas.Option.{unwrap_or-slice_get}
use Rattle.cut.specs.Plan.{jobs}
use Rattle.cut.specs.OutputPlan.{PlanSeen, lists_in}
use Rattle.cut.specs.PlanInvariant.{block_count}
use Rattle.cut.proofs.NumberedBlocks.{all_counted, blocks_counted}
use Rattle.cut.proofs.PlanBlocks.{jobs_are}
use Rattle.cut.proofs.whole_plan.Plan.jobs.Goals as goal
use Rattle.cut.proofs.whole_plan.Plan.jobs.Goals.{After-unwrap_or}

-- the last end counts all data blocks
counted : (g : _) (c : After-unwrap_or g) → c.unwrap_or.result ≡ block_count c.self.inside.outputs.items
counted g c =
    let ends : List ℕ = c.deref.result.now in
    c.unwrap_or.ensures
    ∙ ap (λ (o : Option ℕ). unwrap_or o 0) (c.copied.ensures ∙ c.last.ensures.value)
    ∙ unwrap_or-slice_get ends (length ends - 1) 0
    ∙ ap (λ (ns : List ℕ). get_or ns (length ns - 1) 0) (c.deref.ensures.value ∙ c.self.invariant.ends_are)
    ∙ all_counted c.self.inside.outputs.items

pub returns-clause-number : goal.returns-clause-number
returns-clause-number g c =
    let was = c.self.inside in
    subst (λ (s : PlanSeen). c.unwrap_or.result ≡ jobs s.options (lists_in s.outputs)) c.self.view_is
    (counted g c ∙ sym (blocks_counted was.outputs.items) ∙ jobs_are g.C.Comparator.cmp g.C.Comparator.short_keys was.options was.outputs.items c.self.invariant.each)

pub returns-clause-few : goal.returns-clause-few
returns-clause-few g c = omega (arith, counted g c, c.self.invariant.few)
