use Rattle.compact.proofs.GroupedAnswers.{fits_if}
use Rattle.compact.proofs.merged_request.planned_outputs.Goals as goal

pub returns-clause-fits : goal.returns-clause-fits
returns-clause-fits g c = fits_if (λ p. p.outputs) _ c.args.request.now.options c.args.request.now.first_number _ c.plan.result c.plan.ensures.outputs
