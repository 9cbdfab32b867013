use Rattle.std.proofs.Common.{◌<◌, length, false, true, ap, sym, ◌∙◌, arith}
use Rattle.pick.specs.declared.picked_inputs.InputFile.{InputFile}
use Rattle.compact.specs.Inputs.{table_matches_metadata}
use Rattle.store.proofs.CheckedInputs.{stated_end, stated_step}
use Rattle.store.proofs.input_tables.are_stated.Goals as goal

pub returns-then-not-matches_metadata : goal.returns-then-not-matches_metadata
returns-then-not-matches_metadata g c =
    let k = c.loop-place.place in
    let lt : k < length c.args.tables.now = omega (arith, c.requires) in
    sym (c.loop-place.invariant ∙ stated_step c.args.inputs.now c.args.tables.now k c.index-inputs-place.result c.index-tables-place.result false (omega arith) lt c.index-inputs-place.is c.index-tables-place.is
    (ap (table_matches_metadata c.index-inputs-place.result.meta) (sym c.table.ensures) ∙ ap (λ (x : InputFile). table_matches_metadata x.meta c.table.result.now) c.index-inputs-place.is ∙ sym c.matches_metadata.ensures ∙ c.if-not-matches_metadata.true))

pub loop-place-preserved : goal.loop-place-preserved
loop-place-preserved g c =
    let k = c.loop-place.place in
    let lt : k < length c.args.tables.now = omega (arith, c.requires) in
    c.loop-place.invariant ∙ stated_step c.args.inputs.now c.args.tables.now k c.index-inputs-place.result c.index-tables-place.result true (omega arith) lt c.index-inputs-place.is c.index-tables-place.is
    (ap (table_matches_metadata c.index-inputs-place.result.meta) (sym c.table.ensures) ∙ ap (λ (x : InputFile). table_matches_metadata x.meta c.table.result.now) c.index-inputs-place.is ∙ sym c.matches_metadata.ensures ∙ c.if-not-matches_metadata.false)

pub returns : goal.returns
returns g c = sym (c.loop-place.invariant ∙ stated_end c.args.inputs.now c.args.tables.now c.loop-place.place (omega arith))
