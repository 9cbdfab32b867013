use Rattle.std.proofs.Common.{List, map, sym, ap, ◌∙◌}
use Rattle.std.proofs.lemmas.List.{map-id}
use Rattle.keep.specs.EncodedEntry.{Entry}
use Rattle.keep.specs.TableContents.{Contents}
use Rattle.keep.specs.Marks.{context_of}
use Rattle.keep.specs.Runs.{range_run}
use Rattle.adoption.proofs.AdoptionSteps.{ok_with}
use Rattle.adoption.proofs.KeptLemmas.{kept_exactly, never_kept, unless_duplicate, whole_range}
use Rattle.adoption.proofs.kept_entries.holds_kept.Goals as goal

pub returns-in-Ok-clause-exact : goal.returns-in-Ok-clause-exact
returns-in-Ok-clause-exact g c =
    let cmp = g.C.Comparator.cmp in
    let context = context_of c.args.listed.now c.args.floor c.args.picked.now in
    let inputs = map (λ (t : Contents). t.entries) c.args.inputs.now in
    let outputs = map (λ (t : Contents). t.entries) c.args.outputs.now in
    let same = map-id c.in_ok-cursors.cursors.items ∙ c.in_ok-cursors.ensures.cursors in
    let run = ap (λ (lists : List (List Entry)). range_run cmp context lists whole_range) (sym same) ∙ c.in-Ok.ensures.run in
    ok_with c.is_held.result _ _ (λ t exact. kept_exactly cmp context inputs c.distinct_law.ensures c.in-Ok.found outputs t run exact) c.is_held.ensures.exact

pub returns-in-Duplicate-clause-exact : goal.returns-in-Duplicate-clause-exact
returns-in-Duplicate-clause-exact g c =
    let cmp = g.C.Comparator.cmp in
    let context = context_of c.args.listed.now c.args.floor c.args.picked.now in
    let inputs = map (λ (t : Contents). t.entries) c.args.inputs.now in
    let outputs = map (λ (t : Contents). t.entries) c.args.outputs.now in
    let same = map-id c.in_ok-cursors.cursors.items ∙ c.in_ok-cursors.ensures.cursors in
    let e = c.in-Err.refused in
    let run = ap (λ (lists : List (List Entry)). range_run cmp context lists whole_range) (sym same) ∙ unless_duplicate e _ c.in-Duplicate.is c.in-Err.ensures.run in
    never_kept cmp context inputs c.distinct_law.ensures outputs e run
