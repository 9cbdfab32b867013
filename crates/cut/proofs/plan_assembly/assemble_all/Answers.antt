use Rattle.std.proofs.Common.{◌≡◌, ◌+◌, ◌<◌, ◌≤◌, ◌^◌, ◌++◌, ◌∷◌, [], List, ℕ, length, map, take, drop, sym, ap, subst, ◌∙◌, arith}
use Rattle.std.specs.Prelude.{flat_map}
use Rattle.std.specs.Global.{Vec}
use Rattle.std.specs.List.{AllByRecursion}
use Rattle.std.specs.Vec.Iter.{into_iter_items}
use Rattle.std.proofs.lemmas.List.{map-append, take_more}
use Rattle.table.specs.Table.{IndexKeys, index_keys, stored_blocks, table_of_blocks}
use Rattle.keep.proofs.OnAnswers.{same_ok}
use Rattle.cut.specs.declared.planned_block.PlannedBlock.{PlannedBlock}
use Rattle.cut.specs.declared.planned_output.PlannedOutput.{PlannedOutput}
use Rattle.cut.specs.PlanTables.{IsReady, tables_of}
use Rattle.cut.specs.PlannedBlocks.{IsPlanned, block_lists}
use Rattle.cut.proofs.PlanBlocks.{at}
use Rattle.cut.proofs.ReadyTables.{front_bytes, left_bytes}
use Rattle.cut.proofs.plan_assembly.assemble_all.Goals as goal

pub close_table-requires-clause-planned : goal.close_table-requires-clause-planned
close_table-requires-clause-planned g c =
    let keys : IndexKeys = index_keys g.C.Comparator.cmp g.C.Comparator.short_keys in
    let p : PlannedOutput = c.output-item.result in
    subst (AllByRecursion (IsPlanned c.args.interval)) (sym c.deref.ensures.value)
    (at (IsReady keys c.args.interval) c.args.outputs.now c.loop-output.output-index p (omega (arith, c.loop-output-test.true)) c.requires.ready (sym c.output-item.is)).planned

pub close_table-requires-clause-stored : goal.close_table-requires-clause-stored
close_table-requires-clause-stored g c =
    let p : PlannedOutput = c.output-item.result in
    let bytes_of : Vec ℕ → List ℕ = λ v. v.items in
    let old : List (Vec ℕ) = into_iter_items c.loop-output.rest in
    let lt : c.loop-output.output-index < length c.args.outputs.now = omega (arith, c.loop-output-test.true) in
    let count : c.len.result ≡ length p.blocks.items = omega (arith, c.len.ensures) in
    c.in_ok-stored.ensures.joined
    ∙ ap (λ (n : ℕ). flat_map bytes_of (take n old)) count
    ∙ front_bytes bytes_of c.args.interval c.args.outputs.now c.loop-output.output-index p old lt (sym c.output-item.is) c.loop-output.invariant.left
    ∙ ap (λ (bs : List PlannedBlock). stored_blocks c.args.interval (block_lists bs)) (sym c.deref.ensures.value)

pub close_table-requires-clause-fits : goal.close_table-requires-clause-fits
close_table-requires-clause-fits g c =
    let keys : IndexKeys = index_keys g.C.Comparator.cmp g.C.Comparator.short_keys in
    let p : PlannedOutput = c.output-item.result in
    subst (λ (bs : List PlannedBlock). length (table_of_blocks keys c.args.interval (block_lists bs)) ≤ 2 ^ 30) (sym c.deref.ensures.value)
    (at (IsReady keys c.args.interval) c.args.outputs.now c.loop-output.output-index p (omega (arith, c.loop-output-test.true)) c.requires.ready (sym c.output-item.is)).fits

pub loop-output-preserved : goal.loop-output-preserved
loop-output-preserved g c =
    let keys : IndexKeys = index_keys g.C.Comparator.cmp g.C.Comparator.short_keys in
    let p : PlannedOutput = c.output-item.result in
    let is = sym c.output-item.is in
    let bytes_of : Vec ℕ → List ℕ = λ v. v.items in
    let old : List (Vec ℕ) = into_iter_items c.loop-output.rest in
    let lt : c.loop-output.output-index < length c.args.outputs.now = omega (arith, c.loop-output-test.true) in
    let count : c.len.result ≡ length p.blocks.items = omega (arith, c.len.ensures) in
    let seen : ℕ × Vec ℕ → ℕ × List ℕ = λ t. (t.0, t.1.items) in
    let table : PlannedOutput → ℕ × List ℕ = λ x. (x.number, table_of_blocks keys c.args.interval (block_lists x.blocks.items)) in
    let before : List PlannedOutput = take c.loop-output.output-index c.args.outputs.now in
    let bytes_is : c.in_ok-bytes.bytes.items ≡ table_of_blocks keys c.args.interval (block_lists p.blocks.items) =
    sym (same_ok _ _ c.in_ok-bytes.ensures) ∙ ap (λ (bs : List PlannedBlock). table_of_blocks keys c.args.interval (block_lists bs)) c.deref.ensures.value in
    let pushed : c.push.new.self.items ≡ c.loop-output.tables.items ++ (p.number, c.in_ok-bytes.bytes) ∷ [] = c.in_ok-push.ensures.items in
    let more : take (c.loop-output.output-index + 1) c.args.outputs.now ≡ before ++ p ∷ [] = take_more c.args.outputs.now c.loop-output.output-index p lt ∙ ap (λ (x : PlannedOutput). before ++ x ∷ []) is in
    record {
      left =
          ap (map bytes_of) (c.in_ok-stored.ensures.left ∙ ap (λ (n : ℕ). drop n old) count)
          ∙ left_bytes bytes_of c.args.interval c.args.outputs.now c.loop-output.output-index p old lt is c.loop-output.invariant.left;
      tables =
          ap (map seen) pushed
          ∙ map-append seen c.loop-output.tables.items ((p.number, c.in_ok-bytes.bytes) ∷ [])
          ∙ ap (λ (ts : List (ℕ × List ℕ)). ts ++ (p.number, c.in_ok-bytes.bytes.items) ∷ []) c.loop-output.invariant.tables
          ∙ ap (λ (bs : List ℕ). tables_of keys c.args.interval before ++ (p.number, bs) ∷ []) bytes_is
          ∙ sym (ap (tables_of keys c.args.interval) more ∙ map-append table before (p ∷ []));
    }
