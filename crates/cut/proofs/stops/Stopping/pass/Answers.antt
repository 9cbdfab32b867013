use Rattle.std.proofs.Common.{List, sym, ap, ◌∙◌}
use Rattle.keep.specs.declared.mark.Mark.{Mark}
use Rattle.keep.specs.Runs.{moved_mark}
use Rattle.cut.specs.declared.stops.Overlap.{Overlap}
use Rattle.cut.proofs.Stopped.{counted_next, goes_on, stops_here}
use Rattle.cut.proofs.stops.Stopping.pass.Goals as goal

pub returns-in_default-at-clause-ok : goal.returns-in_default-at-clause-ok
returns-in_default-at-clause-ok c =
    let m : Mark = moved_mark c.args.passed c.args.mark in
    λ (rest : List Mark). stops_here c.args.grandparents.now c.args.file_size c.args.self.now c.in-Some.overlap c.new-in_default-at.result m c.push.new.self.items rest
    c.requires.counted c.in-Some.is (sym c.at.ensures ∙ c.in_default-at.is) (ap (λ (o : Overlap). o.since) c.new-in_default-at.ensures) c.in_ok-push.ensures.items

pub returns-clause-ok : goal.returns-clause-ok
returns-clause-ok c =
    let m : Mark = moved_mark c.args.passed c.args.mark in
    λ (rest : List Mark). goes_on c.args.grandparents.now c.args.file_size c.args.self.now c.in-Some.overlap c.in-Some-at.further m rest
    c.requires.counted c.in-Some.is (sym c.at.ensures ∙ c.in-Some-at.is)

pub returns-clause-counted : goal.returns-clause-counted
returns-clause-counted c =
    counted_next c.args.grandparents.now c.args.file_size c.args.self.now c.in-Some.overlap c.in-Some-at.further c.args.mark.below
    c.requires.counted c.in-Some.is (sym c.at.ensures ∙ c.in-Some-at.is)
