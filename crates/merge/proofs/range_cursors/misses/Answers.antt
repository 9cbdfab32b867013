use Rattle.std.proofs.Common.{sym, ◌∙◌}
use Rattle.std.proofs.lemmas.Bool.{not-true}
use Rattle.split.specs.Ranges.{key_range}
use Rattle.merge.proofs.Reaching.{begins_behind, ends_before, table_never_falls}
use Rattle.merge.proofs.range_cursors.misses.Goals as goal

pub returns-then-ends : goal.returns-then-ends
returns-then-ends g c = λ h.
    ends_before g.C.Comparator.cmp g.met.C.Comparator.total (key_range c.args.range) c.args.table.now.entries
    (table_never_falls g.C.Comparator.cmp g.met.C.Comparator.total c.args.table.now.bytes c.args.table.now c.bytes.ensures.reading)
    c.largest.result.bytes.now c.largest.ensures (sym c.is_before-ends.ensures ∙ c.if-ends.true)

pub returns : goal.returns
returns g c = λ h.
    begins_behind g.C.Comparator.cmp g.met.C.Comparator.total (key_range c.args.range) c.args.table.now.entries
    (table_never_falls g.C.Comparator.cmp g.met.C.Comparator.total c.args.table.now.bytes c.args.table.now c.bytes.ensures.reading)
    c.smallest.result.bytes.now c.smallest.ensures (sym c.is_before-begins.ensures ∙ not-true _ h)
