use Rattle.folder.proofs.names.current_text.Goals as goal
use Rattle.folder.proofs.NameLemmas.{padded_six_digits}

pub returns : goal.returns
returns c = rw (c.in_ok-format.ensures.ok, c.laid_out.ensures, padded_six_digits c.args.number)
