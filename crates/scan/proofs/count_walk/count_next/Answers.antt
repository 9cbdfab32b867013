use Rattle.std.proofs.Common.{sym, ◌∙◌}
use Rattle.merge.specs.MergedLists.{merged}
use Rattle.reads.specs.Ranges.{key_range}
use Rattle.scan.proofs.CountSteps.{earlier_amounts, earlier_decided, later_amounts, later_decided}
use Rattle.scan.proofs.count_walk.count_next.Goals as goal

pub returns-then-is_earlier-clause-amounts : goal.returns-then-is_earlier-clause-amounts
returns-then-is_earlier-clause-amounts g c e es whole =
    earlier_amounts g.C.Comparator.cmp (key_range c.args.range).lower c.args.place c.args.last c.args.decided.now c.args.amounts.now (merged g.C.Comparator.cmp c.args.merging.now) es e whole (sym c.starts_before-is_earlier.ensures ∙ c.if-is_earlier.true)

pub returns-then-is_earlier-clause-decided : goal.returns-then-is_earlier-clause-decided
returns-then-is_earlier-clause-decided g c e es whole =
    earlier_decided g.C.Comparator.cmp (key_range c.args.range).lower c.args.place c.args.last c.args.decided.now c.args.amounts.now (merged g.C.Comparator.cmp c.args.merging.now) es e whole (sym c.starts_before-is_earlier.ensures ∙ c.if-is_earlier.true)

pub returns-clause-amounts : goal.returns-clause-amounts
returns-clause-amounts g c e es whole =
    later_amounts g.C.Comparator.cmp (key_range c.args.range).lower c.args.place c.args.last c.args.decided.now c.args.amounts.now (merged g.C.Comparator.cmp c.args.merging.now) es e whole c.key-key.result.bytes.now c.key-key.ensures (sym c.starts_before-is_earlier.ensures ∙ c.if-is_earlier.false)
    c.kind.result c.in_ok-is_hidden.is_hidden c.of_entry.result c.plus.result c.kind.ensures c.in_ok-is_hidden.ensures.hidden c.of_entry.ensures c.plus.ensures

pub returns-clause-decided : goal.returns-clause-decided
returns-clause-decided g c e es whole =
    later_decided g.C.Comparator.cmp (key_range c.args.range).lower c.args.place c.args.last c.args.decided.now c.args.amounts.now (merged g.C.Comparator.cmp c.args.merging.now) es e whole c.key-key.result.bytes.now c.key-key.ensures (sym c.starts_before-is_earlier.ensures ∙ c.if-is_earlier.false)
    c.take_in.new.self c.in_ok-is_hidden.ensures.decided
