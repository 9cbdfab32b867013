use Rattle.std.proofs.Common.{◌≡◌, false, None, sym, ap, ◌∙◌}
use Rattle.std.proofs.lemmas.Bool.{not-true}
use Rattle.table.specs.Tallies.{has_twins}
use Rattle.table.specs.declared.tally.Tally.{Tally}
use Rattle.checks.proofs.BoundsLemmas.{bounds_tell}
use Rattle.checks.proofs.table_bounds.falls_alone.Goals as goal

pub returns : goal.returns
returns g c told =
    let es = c.args.table.now.entries in
    let none : has_twins None es ≡ false = sym (ap (λ (t : Tally). t.has_twins) c.tally.ensures.tally) ∙ not-true c.tally.result.has_twins told in
    (bounds_tell g.C.Comparator.cmp g.met.C.Comparator.total g.met.C.Comparator.exact).alone es (record { keys = c.tally.ensures.keys; rising = c.tally.ensures.rising }) none
