use Rattle.std.proofs.Common.{◌≡◌, ◌<◌, ◌≤◌, ◌^◌, List, length, map, sym, ap, subst, ◌∙◌, arith}
use Rattle.std.specs.Prelude.{IfOk, Some, slice_get}
use Rattle.block.specs.BlockFormat.{block}
use Rattle.cut.specs.declared.planned_block.PlannedBlock.{PlannedBlock}
use Rattle.cut.specs.declared.planned_output.PlannedOutput.{PlannedOutput}
use Rattle.cut.specs.BlockNumbers.{output_ends, planned_blocks}
use Rattle.cut.specs.OutputPlan.{PlanSeen, lists_in}
use Rattle.cut.specs.Plan.{encoded_blocks, jobs}
use Rattle.cut.specs.PlanInvariant.{planned_of}
use Rattle.cut.specs.PlanTables.{stored_one}
use Rattle.cut.proofs.PlanBlocks.{all_short, bytes_are, encoded_at, found_holds, jobs_are}
use Rattle.cut.proofs.whole_plan.Plan.encode.Goals as goal

pub block_of-block-requires-clause-ends : goal.block_of-block-requires-clause-ends
block_of-block-requires-clause-ends g c =
    c.deref-2.ensures.value ∙ c.self.invariant.ends_are ∙ sym (ap (output_ends 0) c.deref.ensures.value)

pub block_of-block-requires-clause-within : goal.block_of-block-requires-clause-within
block_of-block-requires-clause-within g c =
    let was = c.self.inside in
    let some : c.args.job < jobs was.options (lists_in (map planned_of was.outputs.items)) = subst (λ (s : PlanSeen). c.args.job < jobs s.options (lists_in s.outputs)) (sym c.self.view_is) c.requires in
    subst (λ (ps : List PlannedOutput). c.args.job < length (planned_blocks ps)) (sym c.deref.ensures.value)
    (omega (arith, some, jobs_are g.C.Comparator.cmp g.C.Comparator.short_keys was.options was.outputs.items c.self.invariant.each))

pub encode_block-requires-clause-fits : goal.encode_block-requires-clause-fits
encode_block-requires-clause-fits g c =
    let was = c.self.inside in
    let b : PlannedBlock = c.block_of-block.result.now in
    let there : slice_get (planned_blocks was.outputs.items) c.args.job ≡ Some b = ap (λ (ps : List PlannedOutput). slice_get (planned_blocks ps) c.args.job) (sym c.deref.ensures.value) ∙ c.block_of-block.ensures in
    found_holds (λ (x : PlannedBlock). length (block was.options.restart_interval x.entries.entries) ≤ 2 ^ 31) (planned_blocks was.outputs.items) c.args.job b there
    (all_short g.C.Comparator.cmp g.C.Comparator.short_keys was.options was.outputs.items c.self.invariant.each)

pub returns-clause-ok : goal.returns-clause-ok
returns-clause-ok g c =
    let was = c.self.inside in
    let b : PlannedBlock = c.block_of-block.result.now in
    let there : slice_get (planned_blocks was.outputs.items) c.args.job ≡ Some b = ap (λ (ps : List PlannedOutput). slice_get (planned_blocks ps) c.args.job) (sym c.deref.ensures.value) ∙ c.block_of-block.ensures in
    let found : slice_get (encoded_blocks was.options (lists_in (map planned_of was.outputs.items))) c.args.job ≡ Some (stored_one was.options.restart_interval b) =
    encoded_at g.C.Comparator.cmp g.C.Comparator.short_keys was.options was.outputs.items c.args.job b c.self.invariant.each there in
    subst (λ (s : PlanSeen). IfOk c.encode_block.result (λ bytes. slice_get (encoded_blocks s.options (lists_in s.outputs)) c.args.job ≡ Some bytes.items)) c.self.view_is
    (bytes_are c.encode_block.result (stored_one was.options.restart_interval b) (slice_get (encoded_blocks was.options (lists_in (map planned_of was.outputs.items))) c.args.job) c.encode_block.ensures found)
