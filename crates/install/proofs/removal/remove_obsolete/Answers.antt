use Rattle.std.proofs.Common.{map, string_bytes, subst, sym, inr}
use Rattle.folder.specs.Orders.{order_cmp}
use Rattle.folder.specs.declared.folder.FolderFault.{FolderFault}
use Rattle.edit.specs.fault.Fault.{Fault}
use Rattle.install.specs.ObsoleteFile.{AreObsolete}
use Rattle.install.specs.Removal.{removal_calls}
use Rattle.install.proofs.ObsoleteNames.{texts}
use Rattle.install.proofs.Stays.{calls_spare, stays_as, stays_untouched}
use Rattle.install.proofs.Telling.{run_as, run_err}
use Rattle.install.proofs.Unused.{HasSmallNumbers}
use Rattle.install.proofs.removal.remove_obsolete.Goals as goal

pub returns-in_err-obsolete-clause-stays : goal.returns-in_err-obsolete-clause-stays
returns-in_err-obsolete-clause-stays g c tables =
    let o = c.args.opened.now in
    stays_untouched (order_cmp o.order) o.order o.version o.manifest tables (g.F.Folder.calls c.args.folder.now) (g.F.Folder.tells c.args.folder.now)

pub returns-in_err-remove_all-clause-left : goal.returns-in_err-remove_all-clause-left
returns-in_err-remove_all-clause-left g c =
    let calls = g.F.Folder.calls in
    let tells = g.F.Folder.tells in
    let o = c.args.opened.now in
    let a = c.args.folder.now in
    let b = c.remove_all.new.folder in
    let removed = c.deref.result.now in
    inr (record {
      removed = texts removed;
      obsolete = subst (λ t. AreObsolete (order_cmp o.order) o.version o.manifest (map string_bytes c.args.names.now) (texts t)) (sym c.deref.ensures.value) c.in_ok-obsolete.ensures.obsolete;
      run = run_err g.W.RemovalWatch.tells _ (removal_calls (texts removed)) (calls a) (calls b) (tells a) (tells b) c.args.watch.now c.remove_all.new.watch c.in_err-remove_all.field-0.0 c.from_residual-in_err-remove_all.result
          c.from_residual-in_err-remove_all.ensures.1 c.in_err-remove_all.ensures.run;
    })

pub returns-in_err-remove_all-clause-stays : goal.returns-in_err-remove_all-clause-stays
returns-in_err-remove_all-clause-stays g c tables =
    let calls = g.F.Folder.calls in
    let tells = g.F.Folder.tells in
    let o = c.args.opened.now in
    let a = c.args.folder.now in
    let b = c.remove_all.new.folder in
    let removed = c.deref.result.now in
    let has : HasSmallNumbers (order_cmp o.order) o.version o.manifest = record { files = c.in_ok-obsolete.ensures.small; small = c.obsolete_names.ensures.small_manifest } in
    let are : AreObsolete (order_cmp o.order) o.version o.manifest (map string_bytes c.args.names.now) (texts removed) =
    subst (λ t. AreObsolete (order_cmp o.order) o.version o.manifest (map string_bytes c.args.names.now) (texts t)) (sym c.deref.ensures.value) c.in_ok-obsolete.ensures.obsolete in
    stays_as (order_cmp o.order) o.order o.version o.manifest tables has (removal_calls (texts removed)) (calls a) (calls b) (tells a) (tells b) c.remove_all.result
    (calls_spare (order_cmp o.order) o.order o.version o.manifest tables has (map string_bytes c.args.names.now) (texts removed) are) c.remove_all.ensures.run.runs

pub returns-clause-left : goal.returns-clause-left
returns-clause-left g c =
    let calls = g.F.Folder.calls in
    let tells = g.F.Folder.tells in
    let o = c.args.opened.now in
    let a = c.args.folder.now in
    let b = c.remove_all.new.folder in
    let removed = c.deref.result.now in
    inr (record {
      removed = texts removed;
      obsolete = subst (λ t. AreObsolete (order_cmp o.order) o.version o.manifest (map string_bytes c.args.names.now) (texts t)) (sym c.deref.ensures.value) c.in_ok-obsolete.ensures.obsolete;
      run = run_as g.W.RemovalWatch.tells {E = FolderFault} {G = Fault} (removal_calls (texts removed)) (calls a) (calls b) (tells a) (tells b) c.args.watch.now c.remove_all.new.watch c.in_ok-remove_all.field-0 tt c.in_ok-remove_all.ensures.run;
    })

pub returns-clause-stays : goal.returns-clause-stays
returns-clause-stays g c tables =
    let calls = g.F.Folder.calls in
    let tells = g.F.Folder.tells in
    let o = c.args.opened.now in
    let a = c.args.folder.now in
    let b = c.remove_all.new.folder in
    let removed = c.deref.result.now in
    let has : HasSmallNumbers (order_cmp o.order) o.version o.manifest = record { files = c.in_ok-obsolete.ensures.small; small = c.obsolete_names.ensures.small_manifest } in
    let are : AreObsolete (order_cmp o.order) o.version o.manifest (map string_bytes c.args.names.now) (texts removed) =
    subst (λ t. AreObsolete (order_cmp o.order) o.version o.manifest (map string_bytes c.args.names.now) (texts t)) (sym c.deref.ensures.value) c.in_ok-obsolete.ensures.obsolete in
    stays_as (order_cmp o.order) o.order o.version o.manifest tables has (removal_calls (texts removed)) (calls a) (calls b) (tells a) (tells b) c.remove_all.result
    (calls_spare (order_cmp o.order) o.order o.version o.manifest tables has (map string_bytes c.args.names.now) (texts removed) are) c.remove_all.ensures.run.runs
