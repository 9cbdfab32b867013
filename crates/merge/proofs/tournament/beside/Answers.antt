use Rattle.merge.proofs.Tournaments.{lowest_bit}
use Rattle.merge.proofs.tournament.beside.Goals as goal

pub returns : goal.returns
returns c = lowest_bit c.args.node
