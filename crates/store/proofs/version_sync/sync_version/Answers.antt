use Rattle.std.proofs.Common.{Ok, Err, refl}
use Rattle.folder.proofs.ReportLemmas.{reports_handed}
use Rattle.folder.specs.Orders.{order_cmp}
use Rattle.store.proofs.SyncsTold.{syncs_tell}
use Rattle.store.proofs.Synced.{synced_stands}
use Rattle.store.proofs.version_sync.sync_version.Goals as goal

pub returns-in-Ok-clause-runs : goal.returns-in-Ok-clause-runs
returns-in-Ok-clause-runs g c = let h = c.in-Ok.ensures.runs in record { steps = h.steps; made = h.made; appended = h.appended; change = h.change }

pub returns-in-Err-clause-runs : goal.returns-in-Err-clause-runs
returns-in-Err-clause-runs g c = let h = c.in-Err.ensures.runs in record { steps = h.steps; made = h.made; appended = h.appended; change = h.change }

pub returns-in-Ok-clause-same : goal.returns-in-Ok-clause-same
returns-in-Ok-clause-same g c files told =
    let calls = g.F.Folder.calls in
    let tells = g.F.Folder.tells in
    let o = c.args.opened in
    syncs_tell (order_cmp o.order) o.version o.manifest (calls c.args.folder.now) (calls c.make_syncs.new.folder) (tells c.args.folder.now) (tells c.make_syncs.new.folder) _ c.in-Ok.ensures.runs files told

pub returns-in-Err-clause-same : goal.returns-in-Err-clause-same
returns-in-Err-clause-same g c files told =
    let calls = g.F.Folder.calls in
    let tells = g.F.Folder.tells in
    let o = c.args.opened in
    syncs_tell (order_cmp o.order) o.version o.manifest (calls c.args.folder.now) (calls c.make_syncs.new.folder) (tells c.args.folder.now) (tells c.make_syncs.new.folder) _ c.in-Err.ensures.runs files told

pub returns-in-Ok-clause-stands : goal.returns-in-Ok-clause-stands
returns-in-Ok-clause-stands g c tables start reads =
    let calls = g.F.Folder.calls in
    let tells = g.F.Folder.tells in
    let o = c.args.opened in
    synced_stands (order_cmp o.order) o.order o.version o.manifest tables start (calls c.args.folder.now) (calls c.make_syncs.new.folder) (tells c.args.folder.now) (tells c.make_syncs.new.folder) _ c.in-Ok.ensures.runs reads

pub returns-in-Ok-clause-device : goal.returns-in-Ok-clause-device
returns-in-Ok-clause-device g c = let h = c.in-Ok.ensures.device in record { device = h.device; at_once = λ risen. absurd (cc (h.at_once risen)); later = h.later }

pub returns-in-Err-clause-device : goal.returns-in-Err-clause-device
returns-in-Err-clause-device g c = reports_handed (Err c.in-Err.fault) refl c.in-Err.ensures.device refl
