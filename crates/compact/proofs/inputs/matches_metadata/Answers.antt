use Rattle.std.proofs.Common.{◌∙◌}
use Rattle.compact.proofs.InputAnswers.{stated_by}
use Rattle.compact.proofs.inputs.matches_metadata.Goals as goal

pub returns : goal.returns
returns g c =
    c.has_bounds.ensures
    ∙ stated_by c.args.file.now c.args.table.now c.bytes.result.now c.smallest.result.bytes.now c.largest.result.bytes.now c.bytes.ensures.bytes c.smallest.ensures c.largest.ensures
