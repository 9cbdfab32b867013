use Rattle.c_api.specs.Merges.{asked_in}
use Rattle.c_api.proofs.Merging.{files_lent}
use Rattle.c_api.proofs.range_run.test.Goals as goal

pub tested-requires : goal.tested-requires
tested-requires g c = files_lent (asked_in c.args.lent.now) c.requires.lent c.args.files.now c.requires.files
