use Rattle.std.proofs.Common.{◌≡◌, List, ℕ, [], ◌∷◌, sym, subst, ◌∙◌}
use Rattle.std.proofs.lemmas.Option.{same_Some}
use Rattle.reads.specs.Table.{table}
use Rattle.compact.specs.Plan.{plan_tables}
use Rattle.folder.proofs.ReportLemmas.{stopped_device}
use Rattle.install.specs.Install.{table_calls}
use Rattle.store.specs.CallsAnswer.{IsCallsAnswer}
use Rattle.store.proofs.planned_installation.write_encoded.Goals as goal

pub returns : goal.returns
returns g c group at =
    let a = c.args.folder.now in
    let n = c.write_source_group.new.folder in
    let r = c.write_source_group.result in
    let failed = g.F.Folder.failed in
    let plan = c.group.result.now in
    let made : List (ℕ × List ℕ) = plan_tables (table g.C.Comparator.cmp g.C.Comparator.short_keys plan.options) plan.outputs in
    let same : made ≡ group = same_Some made group (sym c.group.ensures ∙ at) in
    subst (λ (ts : List (ℕ × List ℕ)). IsCallsAnswer g.F.Folder (table_calls (ts ∷ [])) a n r) same
    (record {
      runs = c.write_source_group.ensures.runs;
      refused = c.write_source_group.ensures.refused;
      device = record { device = stopped_device (failed a) (failed n) r c.write_source_group.ensures.refused; at_once = c.write_source_group.ensures.at_once; later = c.write_source_group.ensures.later };
    })
