use Rattle.std.proofs.Common.{◌≡◌, ◌<◌, length, sym, ap, subst, arith}
use Rattle.std.specs.Prelude.{IfSome, slice_get}
use Rattle.std.proofs.lemmas.List.{length-map}
use Rattle.table.specs.Table.{table}
use Rattle.cut.specs.declared.planned_output.PlannedOutput.{PlannedOutput}
use Rattle.cut.specs.OutputMeta.{IsMetaOf}
use Rattle.cut.specs.OutputPlan.{PlanSeen}
use Rattle.cut.specs.Plan.{OutputView, block_ends, block_ends_from}
use Rattle.cut.specs.PlanInvariant.{planned_of}
use Rattle.cut.proofs.BlockEnds.{output_holds}
use Rattle.cut.proofs.PlanBlocks.{if_here, output_at}
use Rattle.cut.proofs.whole_plan.Plan.output.Goals as goal

pub meta_of-requires-clause-some : goal.meta_of-requires-clause-some
meta_of-requires-clause-some g c =
    let was = c.self.inside in
    let p : PlannedOutput = c.index-output.result.now in
    let lt : c.args.place < length was.outputs.items = omega (arith, subst (λ (s : PlanSeen). c.args.place < length s.outputs) (sym c.self.view_is) c.requires, length-map was.outputs.items planned_of) in
    let planned = output_at g.C.Comparator.cmp g.C.Comparator.short_keys was.options was.outputs.items was.ends.items c.args.place p c.self.invariant lt (sym c.index-output.ensures) in
    planned.some

pub meta_of-requires-clause-fits : goal.meta_of-requires-clause-fits
meta_of-requires-clause-fits g c =
    let was = c.self.inside in
    let p : PlannedOutput = c.index-output.result.now in
    let lt : c.args.place < length was.outputs.items = omega (arith, subst (λ (s : PlanSeen). c.args.place < length s.outputs) (sym c.self.view_is) c.requires, length-map was.outputs.items planned_of) in
    let planned = output_at g.C.Comparator.cmp g.C.Comparator.short_keys was.options was.outputs.items was.ends.items c.args.place p c.self.invariant lt (sym c.index-output.ensures) in
    output_holds g.C.Comparator.cmp g.C.Comparator.short_keys was.options p planned

pub returns-clause-meta : goal.returns-clause-meta
returns-clause-meta g c =
    let was = c.self.inside in
    let p : PlannedOutput = c.index-output.result.now in
    let lt : c.args.place < length was.outputs.items = omega (arith, subst (λ (s : PlanSeen). c.args.place < length s.outputs) (sym c.self.view_is) c.requires, length-map was.outputs.items planned_of) in
    subst (λ (s : PlanSeen). IfSome (slice_get s.outputs c.args.place) (λ (q : OutputView). IsMetaOf q c.meta_of.result)) c.self.view_is
    (if_here (λ (q : OutputView). IsMetaOf q c.meta_of.result) was.outputs.items c.args.place p lt (sym c.index-output.ensures) c.meta_of.ensures)

pub returns-clause-ended : goal.returns-clause-ended
returns-clause-ended g c =
    let was = c.self.inside in
    let p : PlannedOutput = c.index-output.result.now in
    let lt : c.args.place < length was.outputs.items = omega (arith, subst (λ (s : PlanSeen). c.args.place < length s.outputs) (sym c.self.view_is) c.requires, length-map was.outputs.items planned_of) in
    let planned = output_at g.C.Comparator.cmp g.C.Comparator.short_keys was.options was.outputs.items was.ends.items c.args.place p c.self.invariant lt (sym c.index-output.ensures) in
    subst (λ (s : PlanSeen). IfSome (slice_get s.outputs c.args.place) (λ (q : OutputView). q.blocks ≡ block_ends s.options q.entries)) c.self.view_is
    (if_here (λ (q : OutputView). q.blocks ≡ block_ends was.options q.entries) was.outputs.items c.args.place p lt (sym c.index-output.ensures)
    (ap (block_ends_from 0) planned.planned.cut))

pub returns-clause-sized : goal.returns-clause-sized
returns-clause-sized g c =
    let was = c.self.inside in
    let p : PlannedOutput = c.index-output.result.now in
    let lt : c.args.place < length was.outputs.items = omega (arith, subst (λ (s : PlanSeen). c.args.place < length s.outputs) (sym c.self.view_is) c.requires, length-map was.outputs.items planned_of) in
    let planned = output_at g.C.Comparator.cmp g.C.Comparator.short_keys was.options was.outputs.items was.ends.items c.args.place p c.self.invariant lt (sym c.index-output.ensures) in
    subst (λ (s : PlanSeen). IfSome (slice_get s.outputs c.args.place) (λ (q : OutputView). q.length ≡ length (table g.C.Comparator.cmp g.C.Comparator.short_keys s.options q.entries))) c.self.view_is
    (if_here (λ (q : OutputView). q.length ≡ length (table g.C.Comparator.cmp g.C.Comparator.short_keys was.options q.entries)) was.outputs.items c.args.place p lt (sym c.index-output.ensures)
    planned.len_is)

pub returns-clause-fits : goal.returns-clause-fits
returns-clause-fits g c =
    let was = c.self.inside in
    let p : PlannedOutput = c.index-output.result.now in
    let lt : c.args.place < length was.outputs.items = omega (arith, subst (λ (s : PlanSeen). c.args.place < length s.outputs) (sym c.self.view_is) c.requires, length-map was.outputs.items planned_of) in
    let planned = output_at g.C.Comparator.cmp g.C.Comparator.short_keys was.options was.outputs.items was.ends.items c.args.place p c.self.invariant lt (sym c.index-output.ensures) in
    omega (arith, c.meta_of.ensures.len, planned.len_le)
