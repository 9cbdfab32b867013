use Rattle.std.proofs.Common.{◌∙◌}
use Rattle.clap.specs.Words.{found_of}
use Rattle.clap.proofs.WalkLemmas.{first_value-rows}
use Rattle.usage.proofs.LineLemmas.{MatchOption-now}
use Rattle.usage.proofs.values.first_text.Goals as goal

pub returns : goal.returns
returns c = MatchOption-now _ _ (c.get_str.ensures ∙ first_value-rows (found_of c.args.values.now) c.args.id.now)
