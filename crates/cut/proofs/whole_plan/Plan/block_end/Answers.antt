use Rattle.std.proofs.Common.{◌≡◌, ◌<◌, ◌≤◌, List, length, sym, ap, subst, ◌∙◌, arith}
use Rattle.std.specs.Prelude.{IfSome, slice_get}
use Rattle.std.proofs.lemmas.List.{length-map}
use Rattle.block.specs.EncodedEntry.{Entry}
use Rattle.table.specs.declared.table_check.TheConstants.{MAX_TABLE_LEN}
use Rattle.cut.specs.declared.planned_block.PlannedBlock.{PlannedBlock}
use Rattle.cut.specs.declared.planned_output.PlannedOutput.{PlannedOutput}
use Rattle.cut.specs.PlannedBlocks.{block_lists}
use Rattle.cut.specs.OutputInProgress.{entries_in_blocks}
use Rattle.cut.specs.OutputPlan.{PlanSeen}
use Rattle.cut.specs.Plan.{OutputView, block_ends, block_ends_from}
use Rattle.cut.specs.PlanInvariant.{planned_of}
use Rattle.cut.proofs.BlockEnds.{output_holds}
use Rattle.cut.proofs.PlanBlocks.{if_here, output_at}
use Rattle.cut.proofs.whole_plan.Plan.block_end.Goals as goal

pub end_of-requires : goal.end_of-requires
end_of-requires g c =
    let was = c.self.inside in
    let p : PlannedOutput = c.index-output.result.now in
    let lt : c.args.place < length was.outputs.items = omega (arith, subst (λ (s : PlanSeen). c.args.place < length s.outputs) (sym c.self.view_is) c.requires, length-map was.outputs.items planned_of) in
    let planned = output_at g.C.Comparator.cmp g.C.Comparator.short_keys was.options was.outputs.items was.ends.items c.args.place p c.self.invariant lt (sym c.index-output.ensures) in
    subst (λ (bs : List PlannedBlock). length (entries_in_blocks bs) ≤ MAX_TABLE_LEN) (sym c.deref.ensures.value) (output_holds g.C.Comparator.cmp g.C.Comparator.short_keys was.options p planned)

pub returns : goal.returns
returns g c =
    let was = c.self.inside in
    let p : PlannedOutput = c.index-output.result.now in
    let lt : c.args.place < length was.outputs.items = omega (arith, subst (λ (s : PlanSeen). c.args.place < length s.outputs) (sym c.self.view_is) c.requires, length-map was.outputs.items planned_of) in
    let planned = output_at g.C.Comparator.cmp g.C.Comparator.short_keys was.options was.outputs.items was.ends.items c.args.place p c.self.invariant lt (sym c.index-output.ensures) in
    subst (λ (s : PlanSeen). IfSome (slice_get s.outputs c.args.place) (λ (q : OutputView). c.end_of.result ≡ slice_get (block_ends s.options q.entries) c.args.block)) c.self.view_is
    (if_here (λ (q : OutputView). c.end_of.result ≡ slice_get (block_ends was.options q.entries) c.args.block) was.outputs.items c.args.place p lt (sym c.index-output.ensures)
    (c.end_of.ensures
    ∙ ap (λ (bs : List PlannedBlock). slice_get (block_ends_from 0 (block_lists bs)) c.args.block) c.deref.ensures.value
    ∙ ap (λ (ps : List (List Entry)). slice_get (block_ends_from 0 ps) c.args.block) planned.planned.cut))
