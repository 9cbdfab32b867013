use Rattle.std.proofs.Common.{◌+◌, ◌-◌, ◌/◌, ℕ, sym, ◌∙◌, arith}
use Rattle.table.proofs.Searches.{search_begins, search_rises, search_falls, search_ends, last_from}
use Rattle.table.proofs.block_walk.last_below.Goals as goal

pub loop-end-init : goal.loop-end-init
loop-end-init g c = search_begins g.C.Comparator.cmp c.args.target.bytes.now c.args.block.now c.restarts-end.result c.restarts-end.ensures.count c.restarts-end.ensures.some

pub loop-end-preserved-then-restart_is_below : goal.loop-end-preserved-then-restart_is_below
loop-end-preserved-then-restart_is_below g c =
    let middle : ℕ = c.loop-end.restart + (c.loop-end.end - c.loop-end.restart) / 2 in
    search_rises g.C.Comparator.cmp c.args.target.bytes.now c.args.block.now c.loop-end.restart c.loop-end.end middle c.loop-end.invariant (omega (arith, c.loop-end-test.true)) (sym c.restart_is_below.ensures ∙ c.if-restart_is_below.true)

pub loop-end-preserved : goal.loop-end-preserved
loop-end-preserved g c =
    let middle : ℕ = c.loop-end.restart + (c.loop-end.end - c.loop-end.restart) / 2 in
    search_falls g.C.Comparator.cmp c.args.target.bytes.now c.args.block.now c.loop-end.restart c.loop-end.end middle g.met.C.Comparator.total c.requires.rising c.restarts-end.ensures.rising c.loop-end.invariant
    (omega (arith, c.loop-end-test.true)) (omega (arith, c.loop-end-test.true)) (sym c.restart_is_below.ensures ∙ c.if-restart_is_below.false)

pub returns-clause-last : goal.returns-clause-last
returns-clause-last g c = search_ends g.C.Comparator.cmp c.args.target.bytes.now c.args.block.now c.loop-end.restart c.loop-end.end c.loop-end.invariant (omega (arith, c.loop-end-test.false))

pub returns-clause-from : goal.returns-clause-from
returns-clause-from g c =
    last_from g.C.Comparator.cmp c.args.target.bytes.now c.args.block.now c.loop-end.restart g.met.C.Comparator.total c.requires.rising c.restarts-end.ensures.first
    (search_ends g.C.Comparator.cmp c.args.target.bytes.now c.args.block.now c.loop-end.restart c.loop-end.end c.loop-end.invariant (omega (arith, c.loop-end-test.false)))
