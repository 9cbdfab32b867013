use Rattle.std.proofs.Common.{sym}
use Rattle.edit.proofs.Binds.{ok_is}
use Rattle.c_api.proofs.Levelled.{levels_adding}
use Rattle.c_api.proofs.closed_calls.adding.Goals as goal

pub returns-clause-levels : goal.returns-clause-levels
returns-clause-levels c =
    levels_adding c.args.keys.now c.args.files.now _ c.requires c.new.ensures.items c.new-2.ensures.empty (sym (ok_is _ _ c.in_ok-added.ensures))
