use Rattle.std.proofs.Common.{sym, not}
use Rattle.pick.specs.Choices.{is_widening, is_in}
use Rattle.pick.specs.Spans.{is_covering}
use Rattle.pick.proofs.Lists.{lent, find_some, and_first, and_second}
use Rattle.pick.proofs.Grown.{growing_none, growing_more, growing_less, grown_all, not_true}
use Rattle.pick.proofs.choice.grown_range.Goals as goal

pub loop-file-init : goal.loop-file-init
loop-file-init g c = rw (c.of-range.ensures.smallest, c.of-range.ensures.largest) (growing_none g.C.Comparator.cmp g.met.C.Comparator.total (lent c.args.files.now) c.args.first.now)

pub loop-file-preserved : goal.loop-file-preserved
loop-file-preserved g c =
    let cmp = g.C.Comparator.cmp in
    let range = c.loop-file.range in
    let f = c.in-Some.file.now in
    let found = find_some (is_widening cmp range) (lent c.args.files.now) f (sym c.in-Some.ensures) in
    rw (c.with-range.ensures.smallest, c.with-range.ensures.largest) (growing_more cmp g.met.C.Comparator.total (lent c.args.files.now) c.args.first.now range.smallest.now range.largest.now f c.loop-file.invariant found.0 (and_first (is_in cmp range f) (not (is_covering cmp range.smallest.now range.largest.now f)) found.1))

pub loop-file-smaller : goal.loop-file-smaller
loop-file-smaller g c =
    let cmp = g.C.Comparator.cmp in
    let range = c.loop-file.range in
    let f = c.in-Some.file.now in
    let found = find_some (is_widening cmp range) (lent c.args.files.now) f (sym c.in-Some.ensures) in
    let outside = not_true (is_covering cmp range.smallest.now range.largest.now f) (and_second (is_in cmp range f) (not (is_covering cmp range.smallest.now range.largest.now f)) found.1) in
    rw (c.with-range.ensures.smallest, c.with-range.ensures.largest) (growing_less cmp g.met.C.Comparator.total (lent c.args.files.now) range.smallest.now range.largest.now f found.0 outside)

pub returns : goal.returns
returns g c = grown_all g.C.Comparator.cmp g.met.C.Comparator.total (lent c.args.files.now) c.args.first.now c.loop-file.range.smallest.now c.loop-file.range.largest.now c.loop-file.invariant (sym c.in_default.ensures)
