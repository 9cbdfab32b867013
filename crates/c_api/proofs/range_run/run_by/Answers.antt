use Rattle.c_api.proofs.Merging.{checked_bytewise, checked_shortlex}
use Rattle.c_api.proofs.range_run.run_by.Goals as goal

pub tested_run-requires-clause-read : goal.tested_run-requires-clause-read
tested_run-requires-clause-read c =
    checked_bytewise c.args.lent.now.request.order c.args.lent.now.keys.now c.args.lent.now.tables.now c.args.lent.now.inputs.now c.in-1.is c.requires.checked

pub tested_run-requires-in-2-clause-read : goal.tested_run-requires-in-2-clause-read
tested_run-requires-in-2-clause-read c =
    checked_shortlex c.args.lent.now.request.order c.args.lent.now.keys.now c.args.lent.now.tables.now c.args.lent.now.inputs.now c.in-2.is c.requires.checked
