use Rattle.std.proofs.Common.{List, ℕ, sym, ap, ◌∙◌}
use Rattle.std.specs.Ordering.{is_lt}
use Rattle.ikey.specs.Order.{internal_cmp}
use Rattle.reads.specs.meta.FileMeta.{FileMeta}
use Rattle.keep.proofs.GrandparentCounts.{grown, stopped}
use Rattle.keep.proofs.grandparents.count_below.Goals as goal

pub loop-passed-preserved : goal.loop-passed-preserved
loop-passed-preserved g c =
    let cmp = g.C.Comparator.cmp in
    let key = c.args.key.now.bytes.now in
    let file : FileMeta = c.index-grandparents-passed.result in
    grown cmp g.met.C.Comparator.total c.args.grandparents.now key c.requires.rising c.loop-passed.passed file c.loop-passed-test.true
    (ap (λ (k : List ℕ). is_lt (internal_cmp cmp k key)) (sym c.as_key.ensures) ∙ ap is_lt (sym c.compare.ensures.order) ∙ sym c.is_lt.ensures ∙ c.if-is_lt.true)

pub returns-else-is_lt : goal.returns-else-is_lt
returns-else-is_lt g c =
    let cmp = g.C.Comparator.cmp in
    let key = c.args.key.now.bytes.now in
    let file : FileMeta = c.index-grandparents-passed.result in
    stopped cmp g.met.C.Comparator.total c.args.grandparents.now key c.requires.rising c.loop-passed.passed file c.loop-passed-test.true
    (ap (λ (k : List ℕ). is_lt (internal_cmp cmp k key)) (sym c.as_key.ensures) ∙ ap is_lt (sym c.compare.ensures.order) ∙ sym c.is_lt.ensures ∙ c.if-is_lt.false)
    c.loop-passed.invariant
