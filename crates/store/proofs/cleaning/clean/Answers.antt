use Rattle.std.proofs.Common.{List, None, Ok, Option, Result, Some, ap, map, refl, string_bytes, subst, ◌∙◌}
use Rattle.std.specs.Global.{Global, Vec}
use Rattle.std.specs.Prelude.{String}
use Rattle.folder.proofs.ReportLemmas.{reports_after, reports_handed, reports_steady}
use Rattle.folder.specs.Answers.{UnlessMemory}
use Rattle.folder.specs.OpenAnswer.{IsStopped}
use Rattle.folder.specs.Orders.{order_cmp}
use Rattle.folder.specs.fault.Fault.{Fault}
use Rattle.install.proofs.Stays.{stays_untouched}
use Rattle.store.proofs.CleanParts.{cut_part, done_part, stays_of}
use Rattle.store.proofs.Descending.{same_tells}
use Rattle.store.proofs.InstallPart.{refused_ok}
use Rattle.store.proofs.StepPart.{refused_err}
use Rattle.store.specs.Cleaning.{names_in, teller_by}
use Rattle.store.specs.declared.synced_version.SyncedVersion.{SyncedVersion}
use Rattle.store.proofs.cleaning.clean.Goals as goal

-- ---- no names were given

pub returns-in_default-clause-runs : goal.returns-in_default-clause-runs
returns-in_default-clause-runs g c = record {
  names = None;
  listed = c.names.new.self;
  lists = subst (λ (x : Option (Vec (String Global))). g.T.CleanWatch.lists c.args.told.now (names_in x) c.names.new.self) c.in_default.is c.names.ensures;
  removal = (record { calls = refl; same = same_tells (g.F.Folder.tells c.args.folder.now); untold = refl }, refl);
}

pub returns-in_default-clause-stays : goal.returns-in_default-clause-stays
returns-in_default-clause-stays g c tables =
    let o = c.args.opened in
    stays_untouched (order_cmp o.order) o.order o.version o.manifest tables (g.F.Folder.calls c.args.folder.now) (g.F.Folder.tells c.args.folder.now)

pub returns-in_default-clause-device : goal.returns-in_default-clause-device
returns-in_default-clause-device g c = let q : Result (Option SyncedVersion) Fault = Ok None in reports_steady q refl tt

-- ---- the removal was refused

pub returns-in_err-remove_obsolete-clause-runs : goal.returns-in_err-remove_obsolete-clause-runs
returns-in_err-remove_obsolete-clause-runs g c =
    let o = c.args.opened in
    let p = c.into_opened-opened.result in
    let is = c.into_opened-opened.ensures in
    let calls = g.F.Folder.calls in
    let tells = g.F.Folder.tells in
    let a = c.args.folder.now in
    let b = c.remove_obsolete.new.folder in
    let by = teller_by g.T.InstallWatch.tells g.T.CleanWatch.lists g.T.RemovalWatch.tells g.T.CleanWatch.ends in
    let names = map string_bytes c.in-Some.names.items in
    record {
      names = Some names;
      listed = c.names.new.self;
      lists = subst (λ (x : Option (Vec (String Global))). g.T.CleanWatch.lists c.args.told.now (names_in x) c.names.new.self) c.in-Some.is c.names.ensures;
      removal = cut_part by p.order o.order p.version o.version p.manifest o.manifest (map string_bytes c.deref.result.now) names is.order is.version is.manifest (ap (λ (xs : List (String Global)). map string_bytes xs) c.deref.ensures.value)
          (calls a) (calls b) (tells a) (tells b) c.names.new.self c.remove_obsolete.new.watch c.from_residual.result c.in_err-remove_obsolete.field-0.0 c.from_residual.ensures.1 c.in_err-remove_obsolete.ensures.left;
    }

pub returns-in_err-remove_obsolete-clause-stays : goal.returns-in_err-remove_obsolete-clause-stays
returns-in_err-remove_obsolete-clause-stays g c tables =
    let o = c.args.opened in
    let p = c.into_opened-opened.result in
    let is = c.into_opened-opened.ensures in
    stays_of p.order o.order p.version o.version p.manifest o.manifest tables (g.F.Folder.calls c.args.folder.now) (g.F.Folder.calls c.remove_obsolete.new.folder) (g.F.Folder.tells c.args.folder.now) (g.F.Folder.tells c.remove_obsolete.new.folder) is.order is.version is.manifest
    (c.remove_obsolete.ensures.stays tables)

pub returns-in_err-remove_obsolete-clause-reopened : goal.returns-in_err-remove_obsolete-clause-reopened
returns-in_err-remove_obsolete-clause-reopened g c = refused_ok c.from_residual.result c.in_err-remove_obsolete.field-0.0 _ c.from_residual.ensures.1

pub returns-in_err-remove_obsolete-clause-refused : goal.returns-in_err-remove_obsolete-clause-refused
returns-in_err-remove_obsolete-clause-refused g c =
    let failed = g.F.Folder.failed in
    refused_err c.from_residual.result c.in_err-remove_obsolete.field-0.0 (λ e. UnlessMemory e (IsStopped (failed c.args.folder.now) (failed c.remove_obsolete.new.folder) e)) c.from_residual.ensures.1 c.in_err-remove_obsolete.ensures.refused

pub returns-in_err-remove_obsolete-clause-device : goal.returns-in_err-remove_obsolete-clause-device
returns-in_err-remove_obsolete-clause-device g c = reports_handed c.from_residual.result c.in_err-remove_obsolete.was c.remove_obsolete.ensures.device c.from_residual.ensures.1

-- ---- it goes on

pub returns-then-cleaned-clause-runs : goal.returns-then-cleaned-clause-runs
returns-then-cleaned-clause-runs g c =
    let o = c.args.opened in
    let p = c.into_opened-opened.result in
    let is = c.into_opened-opened.ensures in
    let calls = g.F.Folder.calls in
    let tells = g.F.Folder.tells in
    let a = c.args.folder.now in
    let b = c.remove_obsolete.new.folder in
    let by = teller_by g.T.InstallWatch.tells g.T.CleanWatch.lists g.T.RemovalWatch.tells g.T.CleanWatch.ends in
    let names = map string_bytes c.in-Some.names.items in
    record {
      names = Some names;
      listed = c.names.new.self;
      lists = subst (λ (x : Option (Vec (String Global))). g.T.CleanWatch.lists c.args.told.now (names_in x) c.names.new.self) c.in-Some.is c.names.ensures;
      removal = done_part by p.order o.order p.version o.version p.manifest o.manifest (map string_bytes c.deref.result.now) names is.order is.version is.manifest (ap (λ (xs : List (String Global)). map string_bytes xs) c.deref.ensures.value)
          (calls a) (calls b) (tells a) (tells b) c.names.new.self c.remove_obsolete.new.watch (Some c.of_synced.result) c.in_ok-remove_obsolete.field-0 c.cleaned.new.self c.cleaned.result c.cleaned.ensures c.if-cleaned.true c.in_ok-remove_obsolete.ensures.left;
    }

pub returns-then-cleaned-clause-stays : goal.returns-then-cleaned-clause-stays
returns-then-cleaned-clause-stays g c tables =
    let o = c.args.opened in
    let p = c.into_opened-opened.result in
    let is = c.into_opened-opened.ensures in
    stays_of p.order o.order p.version o.version p.manifest o.manifest tables (g.F.Folder.calls c.args.folder.now) (g.F.Folder.calls c.remove_obsolete.new.folder) (g.F.Folder.tells c.args.folder.now) (g.F.Folder.tells c.remove_obsolete.new.folder) is.order is.version is.manifest
    (c.remove_obsolete.ensures.stays tables)

pub returns-then-cleaned-clause-reopened : goal.returns-then-cleaned-clause-reopened
returns-then-cleaned-clause-reopened g c =
    let one = c.of_synced.ensures in
    let two = c.into_opened-opened.ensures in
    (one.order ∙ two.order, one.version ∙ two.version, one.manifest ∙ two.manifest)

pub returns-then-cleaned-clause-device : goal.returns-then-cleaned-clause-device
returns-then-cleaned-clause-device g c = let q : Result (Option SyncedVersion) Fault = Ok (Some c.of_synced.result) in reports_after q c.in_ok-remove_obsolete.was c.remove_obsolete.ensures.device tt

-- ---- it stops

pub returns-clause-runs : goal.returns-clause-runs
returns-clause-runs g c =
    let o = c.args.opened in
    let p = c.into_opened-opened.result in
    let is = c.into_opened-opened.ensures in
    let calls = g.F.Folder.calls in
    let tells = g.F.Folder.tells in
    let a = c.args.folder.now in
    let b = c.remove_obsolete.new.folder in
    let by = teller_by g.T.InstallWatch.tells g.T.CleanWatch.lists g.T.RemovalWatch.tells g.T.CleanWatch.ends in
    let names = map string_bytes c.in-Some.names.items in
    record {
      names = Some names;
      listed = c.names.new.self;
      lists = subst (λ (x : Option (Vec (String Global))). g.T.CleanWatch.lists c.args.told.now (names_in x) c.names.new.self) c.in-Some.is c.names.ensures;
      removal = done_part by p.order o.order p.version o.version p.manifest o.manifest (map string_bytes c.deref.result.now) names is.order is.version is.manifest (ap (λ (xs : List (String Global)). map string_bytes xs) c.deref.ensures.value)
          (calls a) (calls b) (tells a) (tells b) c.names.new.self c.remove_obsolete.new.watch None c.in_ok-remove_obsolete.field-0 c.cleaned.new.self c.cleaned.result c.cleaned.ensures c.if-cleaned.false c.in_ok-remove_obsolete.ensures.left;
    }

pub returns-clause-stays : goal.returns-clause-stays
returns-clause-stays g c tables =
    let o = c.args.opened in
    let p = c.into_opened-opened.result in
    let is = c.into_opened-opened.ensures in
    stays_of p.order o.order p.version o.version p.manifest o.manifest tables (g.F.Folder.calls c.args.folder.now) (g.F.Folder.calls c.remove_obsolete.new.folder) (g.F.Folder.tells c.args.folder.now) (g.F.Folder.tells c.remove_obsolete.new.folder) is.order is.version is.manifest
    (c.remove_obsolete.ensures.stays tables)

pub returns-clause-device : goal.returns-clause-device
returns-clause-device g c = let q : Result (Option SyncedVersion) Fault = Ok None in reports_after q c.in_ok-remove_obsolete.was c.remove_obsolete.ensures.device tt
