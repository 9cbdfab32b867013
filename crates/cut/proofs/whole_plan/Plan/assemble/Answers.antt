use Rattle.std.proofs.Common.{◌≡◌, List, ℕ, Ok, map, sym, ap, subst, ◌∙◌}
use Rattle.std.specs.Global.{Vec}
use Rattle.std.specs.List.{AllByRecursion}
use Rattle.coding.specs.Answers.{EqualOrMemory}
use Rattle.table.specs.Table.{IndexKeys, index_keys, table}
use Rattle.cut.specs.declared.planned_output.PlannedOutput.{PlannedOutput}
use Rattle.cut.specs.PlanTables.{IsReady, stored_each, tables_of}
use Rattle.cut.specs.Plan.{encoded_blocks, plan_tables}
use Rattle.cut.specs.OutputPlan.{PlanSeen, lists_in}
use Rattle.cut.specs.PlanInvariant.{planned_of}
use Rattle.cut.proofs.PlanBlocks.{encoded_are}
use Rattle.cut.proofs.ReadyTables.{all_ready, tables_are}
use Rattle.cut.proofs.whole_plan.Plan.assemble.Goals as goal

pub assemble_all-requires-clause-ready : goal.assemble_all-requires-clause-ready
assemble_all-requires-clause-ready g c =
    let was = c.self.inside in
    let keys : IndexKeys = index_keys g.C.Comparator.cmp g.C.Comparator.short_keys in
    subst (λ (ps : List PlannedOutput). AllByRecursion (IsReady keys was.options.restart_interval) ps) (sym c.deref.ensures.value)
    (all_ready g.C.Comparator.cmp g.C.Comparator.short_keys was.options was.outputs.items c.self.invariant.each)

pub assemble_all-requires-clause-pieces : goal.assemble_all-requires-clause-pieces
assemble_all-requires-clause-pieces g c =
    let was = c.self.inside in
    let bytes : List (List ℕ) = map (λ (p : Vec ℕ). p.items) c.args.pieces.items in
    let asked : bytes ≡ encoded_blocks was.options (lists_in (map planned_of was.outputs.items)) = subst (λ (s : PlanSeen). bytes ≡ encoded_blocks s.options (lists_in s.outputs)) (sym c.self.view_is) c.requires in
    asked
    ∙ sym (encoded_are g.C.Comparator.cmp g.C.Comparator.short_keys was.options was.outputs.items c.self.invariant.each)
    ∙ sym (ap (stored_each was.options.restart_interval) c.deref.ensures.value)

pub returns : goal.returns
returns g c =
    let was = c.self.inside in
    let cmp = g.C.Comparator.cmp in
    let short_keys = g.C.Comparator.short_keys in
    let keys : IndexKeys = index_keys cmp short_keys in
    let seen : ℕ × Vec ℕ → ℕ × List ℕ = λ t. (t.0, t.1.items) in
    let tables : tables_of keys was.options.restart_interval c.deref.result.now ≡ plan_tables (table cmp short_keys was.options) (map planned_of was.outputs.items) =
    ap (tables_of keys was.options.restart_interval) c.deref.ensures.value ∙ tables_are cmp short_keys was.options was.outputs.items c.self.invariant.each in
    subst (λ (s : PlanSeen). EqualOrMemory (λ ts. map seen ts.items) c.assemble_all.result (Ok (plan_tables (table cmp short_keys s.options) s.outputs))) c.self.view_is
    (subst (λ (ts : List (ℕ × List ℕ)). EqualOrMemory (λ v. map seen v.items) c.assemble_all.result (Ok ts)) tables c.assemble_all.ensures)
