use Rattle.std.proofs.Common.{◌≡◌, List, Ok, sym, ap, ◌∙◌}
use Rattle.keep.specs.TableContents.{Contents}
use Rattle.install.specs.Install.{tables_in}
use Rattle.pick.specs.PickedInputs.{picked_in}
use Rattle.pick.specs.declared.picked_inputs.InputFile.{InputFile}
use Rattle.store.specs.InputsCompaction.{input_tables}
use Rattle.adoption.specs.Adoption.{IsTablesCompared}
use Rattle.adoption.proofs.AdoptionSteps.{holds_behind}
use Rattle.adoption.proofs.kept_comparison.compare_loaded.Goals as goal

pub returns : goal.returns
returns g c =
    let cmp = g.C.Comparator.cmp in
    let p = picked_in c.args.picked.now in
    let loaded = tables_in c.args.loaded.now in
    let read : input_tables cmp p.files loaded ≡ Ok c.deref-2.result.now =
    ap (λ (files : List InputFile). input_tables cmp files loaded) (sym c.deref.ensures.value) ∙ (c.in_ok-inputs.ensures ∙ ap (λ (tables : List Contents). Ok tables) (sym c.deref-2.ensures.value)) in
    holds_behind (λ u. u) c.compare_tables.result (λ r. input_tables cmp p.files loaded ≡ r) (IsTablesCompared cmp p c.args.snapshots c.args.last_sequence c.args.outputs.now) c.deref-2.result.now read c.compare_tables.ensures
