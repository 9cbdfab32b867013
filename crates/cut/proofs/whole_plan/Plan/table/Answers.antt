use Rattle.std.proofs.Common.{◌≡◌, ◌<◌, ◌≤◌, ◌^◌, ℕ, List, length, sym, ap, subst, ◌∙◌, arith}
use Rattle.std.specs.Prelude.{Some, slice_get}
use Rattle.std.specs.List.{AllByRecursion}
use Rattle.std.proofs.lemmas.List.{length-map}
use Rattle.block.specs.BlockFormat.{block}
use Rattle.table.specs.Table.{IndexKeys, index_keys, table, table_of_blocks}
use Rattle.cut.specs.declared.planned_block.PlannedBlock.{PlannedBlock}
use Rattle.cut.specs.PlannedBlocks.{IsPlanned, block_lists}
use Rattle.keep.proofs.OnAnswers.{same_ok}
use Rattle.cut.specs.declared.planned_output.PlannedOutput.{PlannedOutput}
use Rattle.cut.specs.OutputPlan.{PlanSeen}
use Rattle.cut.specs.Plan.{plan_tables}
use Rattle.cut.specs.PlanInvariant.{planned_of}
use Rattle.cut.proofs.PlanBlocks.{block_short, output_at}
use Rattle.cut.proofs.ReadyTables.{one_fits, one_planned, table_here}
use Rattle.cut.proofs.whole_plan.Plan.table.Goals as goal

pub whole_table-requires-clause-short : goal.whole_table-requires-clause-short
whole_table-requires-clause-short g c =
    let was = c.self.inside in
    let p : PlannedOutput = c.index-output.result.now in
    let IsShortBlock : PlannedBlock → Type 0 = λ b. length (block was.options.restart_interval b.entries.entries) ≤ 2147483648 in
    let lt : c.args.place < length was.outputs.items = omega (arith, subst (λ (s : PlanSeen). c.args.place < length s.outputs) (sym c.self.view_is) c.requires, length-map was.outputs.items planned_of) in
    let planned = output_at g.C.Comparator.cmp g.C.Comparator.short_keys was.options was.outputs.items was.ends.items c.args.place p c.self.invariant lt (sym c.index-output.ensures) in
    subst (AllByRecursion IsShortBlock) (sym c.deref.ensures.value) (block_short g.C.Comparator.cmp g.C.Comparator.short_keys was.options p planned)

pub whole_table-requires-clause-planned : goal.whole_table-requires-clause-planned
whole_table-requires-clause-planned g c =
    let was = c.self.inside in
    let p : PlannedOutput = c.index-output.result.now in
    let lt : c.args.place < length was.outputs.items = omega (arith, subst (λ (s : PlanSeen). c.args.place < length s.outputs) (sym c.self.view_is) c.requires, length-map was.outputs.items planned_of) in
    let planned = output_at g.C.Comparator.cmp g.C.Comparator.short_keys was.options was.outputs.items was.ends.items c.args.place p c.self.invariant lt (sym c.index-output.ensures) in
    subst (AllByRecursion (IsPlanned was.options.restart_interval)) (sym c.deref.ensures.value) (one_planned g.C.Comparator.cmp g.C.Comparator.short_keys was.options p planned)

pub whole_table-requires-clause-fits : goal.whole_table-requires-clause-fits
whole_table-requires-clause-fits g c =
    let was = c.self.inside in
    let p : PlannedOutput = c.index-output.result.now in
    let keys : IndexKeys = index_keys g.C.Comparator.cmp g.C.Comparator.short_keys in
    let lt : c.args.place < length was.outputs.items = omega (arith, subst (λ (s : PlanSeen). c.args.place < length s.outputs) (sym c.self.view_is) c.requires, length-map was.outputs.items planned_of) in
    let planned = output_at g.C.Comparator.cmp g.C.Comparator.short_keys was.options was.outputs.items was.ends.items c.args.place p c.self.invariant lt (sym c.index-output.ensures) in
    subst (λ (bs : List PlannedBlock). length (table_of_blocks keys was.options.restart_interval (block_lists bs)) ≤ 2 ^ 30) (sym c.deref.ensures.value) (one_fits g.C.Comparator.cmp g.C.Comparator.short_keys was.options p planned)

pub returns-clause-table : goal.returns-clause-table
returns-clause-table g c =
    let was = c.self.inside in
    let p : PlannedOutput = c.index-output.result.now in
    let keys : IndexKeys = index_keys g.C.Comparator.cmp g.C.Comparator.short_keys in
    let lt : c.args.place < length was.outputs.items = omega (arith, subst (λ (s : PlanSeen). c.args.place < length s.outputs) (sym c.self.view_is) c.requires, length-map was.outputs.items planned_of) in
    let planned = output_at g.C.Comparator.cmp g.C.Comparator.short_keys was.options was.outputs.items was.ends.items c.args.place p c.self.invariant lt (sym c.index-output.ensures) in
    let bytes : c.in_ok-bytes.bytes.items ≡ table_of_blocks keys was.options.restart_interval (block_lists p.blocks.items) =
    sym (same_ok _ _ c.in_ok-bytes.ensures) ∙ ap (λ (bs : List PlannedBlock). table_of_blocks keys was.options.restart_interval (block_lists bs)) c.deref.ensures.value in
    subst (λ (s : PlanSeen). slice_get (plan_tables (table g.C.Comparator.cmp g.C.Comparator.short_keys s.options) s.outputs) c.args.place ≡ Some (p.number, c.in_ok-bytes.bytes.items)) c.self.view_is
    (table_here g.C.Comparator.cmp g.C.Comparator.short_keys was.options was.outputs.items c.args.place p lt (sym c.index-output.ensures) planned ∙ ap (λ (bs : List ℕ). Some (p.number, bs)) (sym bytes))
