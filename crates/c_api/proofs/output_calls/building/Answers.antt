use Rattle.std.proofs.Common.{◌≡◌, ℕ, List, get_or, ap, ◌∙◌}
use Rattle.table.specs.BuilderView.{TableBuilding}
use Rattle.table.specs.EncodedEntry.{Entry}
use Rattle.c_api.specs.Outputs.{entry_at, is_entry}
use Rattle.c_api.specs.declared.output_calls.Entry as host
use Rattle.c_api.proofs.CheckedInputs.{one_tested}
use Rattle.c_api.proofs.Tested.{all_more, tested_more}
use Rattle.c_api.proofs.output_calls.building.Goals as goal

pub loop-entry-preserved : goal.loop-entry-preserved
loop-entry-preserved g c =
    let keys : List ℕ = c.args.keys.now in
    let values : List ℕ = c.args.values.now in
    let F : host.Entry → Entry = entry_at keys values in
    let d : host.Entry = record { key = record { from = 0; len = 0 }; value = record { from = 0; len = 0 } } in
    let x : Entry = record { key = c.part_of.result.now; value = c.part_of-in-loop-entry.result.now } in
    let own : x ≡ F (get_or c.args.entries.now c.loop-entry.entry-index d) =
    ap (λ (k : List ℕ). let e : Entry = record { key = k; value = c.part_of-in-loop-entry.result.now } in e) c.part_of.ensures
    ∙ ap (λ (v : List ℕ). let e : Entry = record { key = (F (get_or c.args.entries.now c.loop-entry.entry-index d)).key; value = v } in e) c.part_of-in-loop-entry.ensures in
    let pushed = ap (λ (t : TableBuilding). t.entries) c.in_ok-add.ensures.added in
    let i = c.loop-entry.entry-index in
    let k = c.loop-entry.invariant in
    let lt = c.loop-entry-test.true in
    record {
      options = ap (λ (t : TableBuilding). t.options) c.in_ok-add.ensures.added ∙ k.options;
      lent = (one_tested (is_entry keys values) c.args.entries.now i d lt k.lent).1;
      all = all_more F c.args.entries.now i d lt c.loop-entry.table.entries c.add.new.table.entries x pushed own k.all;
      tested = tested_more F c.args.entries.now i d lt g.C.Comparator.cmp c.loop-entry.table.entries c.add.new.table.entries x pushed own c.in_ok-add.ensures.ok k.tested;
    }
