use Rattle.std.proofs.Common.{◌≡◌, false, ap, sym, ◌∙◌}
use Rattle.std.proofs.lemmas.Bool.{not-true}
use Rattle.std.specs.Option.{option_map}
use Rattle.std.specs.Ordering.{is_lt}
use Rattle.reads.specs.Ranges.{key_range}
use Rattle.scan.proofs.EmptyRanges.{none_in_range}
use Rattle.scan.proofs.range_scan.is_empty.Goals as goal

pub returns-in-Some-Some : goal.returns-in-Some-Some
returns-in-Some-Some g c = λ h es.
    let apart : is_lt (g.C.Comparator.cmp c.in-Some-Some.lower.now c.in-Some-Some.upper.now) ≡ false = ap is_lt (sym c.compare.ensures) ∙ sym c.is_lt.ensures ∙ not-true c.is_lt.result h in
    none_in_range g.C.Comparator.cmp g.met.C.Comparator.total c.in-Some-Some.lower.now c.in-Some-Some.upper.now apart (key_range c.args.range) (ap (option_map (λ k. k.now)) c.in-Some-Some.is-0) (ap (option_map (λ k. k.now)) c.in-Some-Some.is-1) es
