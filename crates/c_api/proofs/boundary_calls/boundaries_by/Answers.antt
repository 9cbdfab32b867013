use Rattle.c_api.proofs.Merging.{checked_bytewise, checked_shortlex}
use Rattle.c_api.proofs.boundary_calls.boundaries_by.Goals as goal

pub boundaries-requires-clause-read : goal.boundaries-requires-clause-read
boundaries-requires-clause-read c =
    checked_bytewise c.args.lent.now.request.order c.args.lent.now.keys.now c.args.lent.now.tables.now c.args.lent.now.inputs.now c.in-1.is c.requires.checked

pub boundaries-requires-in-2-clause-read : goal.boundaries-requires-in-2-clause-read
boundaries-requires-in-2-clause-read c =
    checked_shortlex c.args.lent.now.request.order c.args.lent.now.keys.now c.args.lent.now.tables.now c.args.lent.now.inputs.now c.in-2.is c.requires.checked
