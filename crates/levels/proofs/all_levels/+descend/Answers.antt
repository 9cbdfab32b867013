use Rattle.std.proofs.Common.{Err, None, Ok, Option, Result, ap, arith, refl, subst, sym, ℕ, ◌-◌, ◌∙◌, ◌≡◌}
use Rattle.std.proofs.lemmas.Result.{err_from_is_err_and}
use Rattle.std.specs.Option.{IfSome}
use Rattle.std.specs.Prelude.{◌⊎◌}
use Rattle.edit.specs.Answers.{UnlessMemory}
use Rattle.edit.specs.fault.Fault.{Fault}
use Rattle.folder.proofs.CountLemmas.{steady}
use Rattle.folder.proofs.ReportLemmas.{reports_after, reports_handed, reports_steady, reports_then}
use Rattle.folder.specs.OpenAnswer.{IsStopped}
use Rattle.folder.specs.Orders.{order_cmp}
use Rattle.install.proofs.Changes.{call_by}
use Rattle.install.specs.Install.{next_version_tables}
use Rattle.store.proofs.CleanParts.{stays_of}
use Rattle.store.proofs.InstallPart.{refused_ok}
use Rattle.store.proofs.NoDevice.{handed_memory}
use Rattle.store.proofs.StepPart.{refused_err}
use Rattle.store.specs.Cleaning.{teller_by}
use Rattle.store.specs.Descent.{IsNextLevel}
use Rattle.store.specs.FolderRequest.{manifest_of}
use Rattle.store.specs.declared.synced_version.SyncedVersion.{SyncedVersion}
use Rattle.levels.proofs.Descending.{at_least_one, clause_of, found_next, never_numbers, none_begun, one_ended, one_more, same_tells, taken_on, taken_refused, taken_stopped}
use Rattle.levels.proofs.DescentRows.{last_refused, last_stopped, linked, no_more, removal_refused, removal_stopped, row_more}
use Rattle.levels.specs.DescentLeft.{IsDescended, IsNextLevelRefused, folder_version}
use Rattle.levels.specs.DescentRuns.{IsDescentRun}
use Rattle.levels.specs.LevelMade.{at_by, way_by}
use Rattle.levels.specs.declared.descent_end.DescentEnd.{DescentEnd}
use Rattle.levels.specs.declared.descent_end.DescentEnd.TheVariants.{AtBottom, Stopped}
use Rattle.levels.proofs.all_levels.+descend.Goals as goal
use Rattle.store.proofs.Descending.{by_memory}

-- ---- what is left

pub returns-in_err-level-clause-left : goal.returns-in_err-level-clause-left
returns-in_err-level-clause-left g t c files loaded tables told current reads sound enough =
    let o = c.args.opened in
    let calls = g.F.Folder.calls in
    let tells = g.F.Folder.tells in
    let failed = g.F.Folder.failed in
    let selection = c.args.course.now.descent.now.selection in
    let s = c.args.course.now.descent.now.settings in
    let first = c.args.folder.now in
    let q = c.from_residual.result in
    let e = c.in_err-level.field-0.0 in
    let h = c.from_residual.ensures.1 in
    let why : Fault → Type 0 = λ x. IsStopped (failed first) (failed first) x ⊎ IsNextLevelRefused (way_by selection o.order s c.args.course.now.bottom) (folder_version o.version o.manifest loaded) x in
    none_begun selection o.order s c.args.course.now.bottom o.version o.manifest loaded tables sound (calls first) (tells first) (failed first) files told (record { reads = reads; named = current })
    (calls first) (tells first) (failed first) q refl (same_tells (tells first)) (refused_err q e (λ x. UnlessMemory x (why x)) h (by_memory e why c.in_err-level.ensures.memory))

pub returns-in_default-clause-left : goal.returns-in_default-clause-left
returns-in_default-clause-left g t c files loaded tables told current reads sound enough =
    let o = c.args.opened in
    let calls = g.F.Folder.calls in
    let tells = g.F.Folder.tells in
    let failed = g.F.Folder.failed in
    let selection = c.args.course.now.descent.now.selection in
    let s = c.args.course.now.descent.now.settings in
    let first = c.args.folder.now in
    none_begun selection o.order s c.args.course.now.bottom o.version o.manifest loaded tables sound (calls first) (tells first) (failed first) files told (record { reads = reads; named = current })
    (calls first) (tells first) (failed first) (Ok AtBottom) refl (same_tells (tells first)) tt

pub returns-in_err-next-clause-left : goal.returns-in_err-next-clause-left
returns-in_err-next-clause-left g t c files loaded tables told current reads sound enough =
    let o = c.args.opened in
    let calls = g.F.Folder.calls in
    let tells = g.F.Folder.tells in
    let failed = g.F.Folder.failed in
    let selection = c.args.course.now.descent.now.selection in
    let s = c.args.course.now.descent.now.settings in
    let first = c.args.folder.now in
    let mid = c.take_level.new.folder in
    let at = subst (λ (n : Option ℕ). IsNextLevel o.version c.args.course.now.bottom n) c.in-Some.is c.in_ok-level.ensures.next in
    let e = c.in_err-next.field-0.0 in
    let p = err_from_is_err_and c.from_residual-in_err-next.result c.from_residual-in_err-next.ensures.1 in
    let left = taken_refused selection o.order s c.args.course.now.bottom o.version o.manifest loaded tables sound (calls first) (tells first) (failed first) files told (record { reads = reads; named = current }) c.in-Some.level at (calls mid) (tells mid) (failed mid) e (c.in_err-next.ensures.left c.args.course.now.bottom files loaded tables told current reads sound) in
    subst (λ (r : Result DescentEnd Fault). IsDescended (way_by selection o.order s c.args.course.now.bottom) (folder_version o.version o.manifest loaded) tables (call_by (calls first) (calls mid) (tells first) (tells mid) (failed first) (failed mid)) r)
    (sym (p.1 ∙ ap (λ (f : Fault). Err f) p.2)) left

pub returns-in_default-2-clause-left : goal.returns-in_default-2-clause-left
returns-in_default-2-clause-left g t c files loaded tables told current reads sound enough =
    let o = c.args.opened in
    let calls = g.F.Folder.calls in
    let tells = g.F.Folder.tells in
    let failed = g.F.Folder.failed in
    let selection = c.args.course.now.descent.now.selection in
    let s = c.args.course.now.descent.now.settings in
    let first = c.args.folder.now in
    let mid = c.take_level.new.folder in
    let at = subst (λ (n : Option ℕ). IsNextLevel o.version c.args.course.now.bottom n) c.in-Some.is c.in_ok-level.ensures.next in
    let by = teller_by g.T.InstallWatch.tells g.T.CleanWatch.lists g.T.RemovalWatch.tells g.T.CleanWatch.ends in
    let way = way_by selection o.order s c.args.course.now.bottom in
    let taken_now = c.in_ok-next.ensures.left c.args.course.now.bottom files loaded tables told current reads sound in
    taken_stopped selection o.order s c.args.course.now.bottom o.version o.manifest loaded tables sound (calls first) (tells first) (failed first) files told (record { reads = reads; named = current }) c.in-Some.level at (calls mid) (tells mid) (failed mid) c.in_ok-next.field-0 taken_now

pub returns-in_err-cleaned-clause-left : goal.returns-in_err-cleaned-clause-left
returns-in_err-cleaned-clause-left g t c files loaded tables told current reads sound enough =
    let o = c.args.opened in
    let calls = g.F.Folder.calls in
    let tells = g.F.Folder.tells in
    let failed = g.F.Folder.failed in
    let selection = c.args.course.now.descent.now.selection in
    let s = c.args.course.now.descent.now.settings in
    let first = c.args.folder.now in
    let mid = c.take_level.new.folder in
    let at = subst (λ (n : Option ℕ). IsNextLevel o.version c.args.course.now.bottom n) c.in-Some.is c.in_ok-level.ensures.next in
    let by = teller_by g.T.InstallWatch.tells g.T.CleanWatch.lists g.T.RemovalWatch.tells g.T.CleanWatch.ends in
    let way = way_by selection o.order s c.args.course.now.bottom in
    let taken_now = c.in_ok-next.ensures.left c.args.course.now.bottom files loaded tables told current reads sound in
    let next = c.in-Some-2.next in
    let goes = taken_on selection o.order s c.args.course.now.bottom o.version o.manifest loaded tables sound (calls first) (tells first) (failed first) files told (record { reads = reads; named = current }) c.in-Some.level at (calls mid) (tells mid) (failed mid) c.in_ok-next.field-0 next c.in-Some-2.is taken_now in
    let i = goes.taken.installed in
    let w = i.compacted.edited.next in
    let ts = next_version_tables (order_cmp o.order) w i.compacted.outputs loaded in
    let after = c.clean.new.folder in
    let stays = stays_of next.order o.order next.version w next.manifest (manifest_of o.version) ts (calls mid) (calls after) (tells mid) (tells after) goes.order_is goes.version_is goes.manifest_is (c.clean.ensures.stays ts) in
    let count = steady (failed first) (failed first) (failed mid) c.in_ok-next.field-0 c.take_level.result c.in_ok-next.was refl c.take_level.ensures.device.later c.take_level.ensures.device.at_once in
    let e = c.in_err-cleaned.field-0.0 in
    let p = err_from_is_err_and c.from_residual-in_err-cleaned.result c.from_residual-in_err-cleaned.ensures.1 in
    let left = one_ended selection o.order s c.args.course.now.bottom o.version o.manifest loaded tables sound (calls first) (tells first) (failed first) files told (record { reads = reads; named = current }) c.in-Some.level at (calls mid) (tells mid) goes.taken.step i (calls after) (tells after) stays (failed mid) (failed after) (Err e) count c.in_err-cleaned.ensures.refused in
    subst (λ (r : Result DescentEnd Fault). IsDescended way (folder_version o.version o.manifest loaded) tables (call_by (calls first) (calls after) (tells first) (tells after) (failed first) (failed after)) r)
    (sym (p.1 ∙ ap (λ (f : Fault). Err f) p.2)) left

pub returns-in_default-3-clause-left : goal.returns-in_default-3-clause-left
returns-in_default-3-clause-left g t c files loaded tables told current reads sound enough =
    let o = c.args.opened in
    let calls = g.F.Folder.calls in
    let tells = g.F.Folder.tells in
    let failed = g.F.Folder.failed in
    let selection = c.args.course.now.descent.now.selection in
    let s = c.args.course.now.descent.now.settings in
    let first = c.args.folder.now in
    let mid = c.take_level.new.folder in
    let at = subst (λ (n : Option ℕ). IsNextLevel o.version c.args.course.now.bottom n) c.in-Some.is c.in_ok-level.ensures.next in
    let by = teller_by g.T.InstallWatch.tells g.T.CleanWatch.lists g.T.RemovalWatch.tells g.T.CleanWatch.ends in
    let way = way_by selection o.order s c.args.course.now.bottom in
    let taken_now = c.in_ok-next.ensures.left c.args.course.now.bottom files loaded tables told current reads sound in
    let next = c.in-Some-2.next in
    let goes = taken_on selection o.order s c.args.course.now.bottom o.version o.manifest loaded tables sound (calls first) (tells first) (failed first) files told (record { reads = reads; named = current }) c.in-Some.level at (calls mid) (tells mid) (failed mid) c.in_ok-next.field-0 next c.in-Some-2.is taken_now in
    let i = goes.taken.installed in
    let w = i.compacted.edited.next in
    let ts = next_version_tables (order_cmp o.order) w i.compacted.outputs loaded in
    let after = c.clean.new.folder in
    let stays = stays_of next.order o.order next.version w next.manifest (manifest_of o.version) ts (calls mid) (calls after) (tells mid) (tells after) goes.order_is goes.version_is goes.manifest_is (c.clean.ensures.stays ts) in
    let count = steady (failed first) (failed first) (failed mid) c.in_ok-next.field-0 c.take_level.result c.in_ok-next.was refl c.take_level.ensures.device.later c.take_level.ensures.device.at_once in
    one_ended selection o.order s c.args.course.now.bottom o.version o.manifest loaded tables sound (calls first) (tells first) (failed first) files told (record { reads = reads; named = current }) c.in-Some.level at (calls mid) (tells mid) goes.taken.step i (calls after) (tells after) stays (failed mid) (failed after) (Ok Stopped) count tt

pub returns-then-steps-eq0-clause-left : goal.returns-then-steps-eq0-clause-left
returns-then-steps-eq0-clause-left g t c files loaded tables told current reads sound enough =
    let o = c.args.opened in
    let calls = g.F.Folder.calls in
    let tells = g.F.Folder.tells in
    let failed = g.F.Folder.failed in
    let selection = c.args.course.now.descent.now.selection in
    let s = c.args.course.now.descent.now.settings in
    let first = c.args.folder.now in
    let mid = c.take_level.new.folder in
    let at = subst (λ (n : Option ℕ). IsNextLevel o.version c.args.course.now.bottom n) c.in-Some.is c.in_ok-level.ensures.next in
    let by = teller_by g.T.InstallWatch.tells g.T.CleanWatch.lists g.T.RemovalWatch.tells g.T.CleanWatch.ends in
    let way = way_by selection o.order s c.args.course.now.bottom in
    let taken_now = c.in_ok-next.ensures.left c.args.course.now.bottom files loaded tables told current reads sound in
    let next = c.in-Some-2.next in
    let goes = taken_on selection o.order s c.args.course.now.bottom o.version o.manifest loaded tables sound (calls first) (tells first) (failed first) files told (record { reads = reads; named = current }) c.in-Some.level at (calls mid) (tells mid) (failed mid) c.in_ok-next.field-0 next c.in-Some-2.is taken_now in
    let rise = goes.taken.installed.compacted.edited.rises in
    let small = goes.taken.installed.compacted.edited.small in
    let none = c.if-steps-eq0.true in
    absurd (omega (arith, rise, small, enough, none))

pub returns-clause-left : goal.returns-clause-left
returns-clause-left g t c files loaded tables told current reads sound enough =
    let o = c.args.opened in
    let calls = g.F.Folder.calls in
    let tells = g.F.Folder.tells in
    let failed = g.F.Folder.failed in
    let selection = c.args.course.now.descent.now.selection in
    let s = c.args.course.now.descent.now.settings in
    let first = c.args.folder.now in
    let mid = c.take_level.new.folder in
    let at = subst (λ (n : Option ℕ). IsNextLevel o.version c.args.course.now.bottom n) c.in-Some.is c.in_ok-level.ensures.next in
    let by = teller_by g.T.InstallWatch.tells g.T.CleanWatch.lists g.T.RemovalWatch.tells g.T.CleanWatch.ends in
    let way = way_by selection o.order s c.args.course.now.bottom in
    let taken_now = c.in_ok-next.ensures.left c.args.course.now.bottom files loaded tables told current reads sound in
    let next = c.in-Some-2.next in
    let goes = taken_on selection o.order s c.args.course.now.bottom o.version o.manifest loaded tables sound (calls first) (tells first) (failed first) files told (record { reads = reads; named = current }) c.in-Some.level at (calls mid) (tells mid) (failed mid) c.in_ok-next.field-0 next c.in-Some-2.is taken_now in
    let i = goes.taken.installed in
    let w = i.compacted.edited.next in
    let ts = next_version_tables (order_cmp o.order) w i.compacted.outputs loaded in
    let after = c.clean.new.folder in
    let stays = stays_of next.order o.order next.version w next.manifest (manifest_of o.version) ts (calls mid) (calls after) (tells mid) (tells after) goes.order_is goes.version_is goes.manifest_is (c.clean.ensures.stays ts) in
    let count = steady (failed first) (failed first) (failed mid) c.in_ok-next.field-0 c.take_level.result c.in_ok-next.was refl c.take_level.ensures.device.later c.take_level.ensures.device.at_once in
    let last = c.descend.new.folder in
    let cleaned = c.in-Some-3.cleaned in
    let again = subst (λ (x : Option SyncedVersion). IfSome x (λ n. (n.order ≡ next.order) × (n.version ≡ next.version) × (n.manifest ≡ next.manifest))) c.in-Some-3.is c.in_ok-cleaned.ensures.reopened in
    let found = found_next selection o.order s c.args.course.now.bottom o.version o.manifest loaded tables sound (calls first) (tells first) (failed first) files told (record { reads = reads; named = current }) c.in-Some.level at (calls mid) (tells mid) goes.taken.step i (calls after) (tells after) stays in
    let rise = i.compacted.edited.rises in
    let some = at_least_one c.args.steps c.if-steps-eq0.false in
    let counted = steady (failed first) (failed mid) (failed after) c.in_ok-cleaned.field-0 c.clean.result c.in_ok-cleaned.was count c.clean.ensures.device.later c.clean.ensures.device.at_once in
    let rest = clause_of selection s c.args.course.now.bottom (c.args.steps - 1) (calls after) (calls last) (tells after) (tells last) (failed after) (failed last) c.descend.result o.order cleaned.order w cleaned.version (manifest_of o.version) cleaned.manifest
    (again.0 ∙ goes.order_is) (again.1 ∙ goes.version_is) (again.2 ∙ goes.manifest_is) c.descend.ensures.left found.0 ts i.compacted.edited.answers.tables_next found.1 found.2.named found.2.reads i.compacted.edited.answers.lawful (omega (arith, rise, enough, some)) in
    one_more selection o.order s c.args.course.now.bottom o.version o.manifest loaded tables sound (calls first) (tells first) (failed first) files told (record { reads = reads; named = current }) c.in-Some.level at (calls mid) (tells mid) goes.taken.step i (calls after) (tells after) stays (calls last) (tells last) (failed after) (failed last) c.descend.result counted rest

-- ---- the device

pub returns-in_err-level-clause-device : goal.returns-in_err-level-clause-device
returns-in_err-level-clause-device g t c =
    reports_steady c.from_residual.result refl (handed_memory c.from_residual.result c.in_err-level.field-0.0 c.from_residual.ensures.1 c.in_err-level.ensures.memory)

pub returns-in_default-clause-device : goal.returns-in_default-clause-device
returns-in_default-clause-device g t c =
    let q : Result DescentEnd Fault = Ok AtBottom in reports_steady q refl tt

pub returns-in_err-next-clause-device : goal.returns-in_err-next-clause-device
returns-in_err-next-clause-device g t c =
    reports_handed c.from_residual-in_err-next.result c.in_err-next.was c.take_level.ensures.device c.from_residual-in_err-next.ensures.1

pub returns-in_default-2-clause-device : goal.returns-in_default-2-clause-device
returns-in_default-2-clause-device g t c =
    let q : Result DescentEnd Fault = Ok Stopped in reports_after q c.in_ok-next.was c.take_level.ensures.device tt

pub returns-in_err-cleaned-clause-device : goal.returns-in_err-cleaned-clause-device
returns-in_err-cleaned-clause-device g t c =
    reports_then c.in_ok-next.was c.take_level.ensures.device (reports_handed c.from_residual-in_err-cleaned.result c.in_err-cleaned.was c.clean.ensures.device c.from_residual-in_err-cleaned.ensures.1)

pub returns-in_default-3-clause-device : goal.returns-in_default-3-clause-device
returns-in_default-3-clause-device g t c =
    let q : Result DescentEnd Fault = Ok Stopped in reports_then c.in_ok-next.was c.take_level.ensures.device (reports_after q c.in_ok-cleaned.was c.clean.ensures.device tt)

pub returns-then-steps-eq0-clause-device : goal.returns-then-steps-eq0-clause-device
returns-then-steps-eq0-clause-device g t c =
    let q : Result DescentEnd Fault = Err c.of.result in
    reports_then c.in_ok-next.was c.take_level.ensures.device (reports_after q c.in_ok-cleaned.was c.clean.ensures.device (λ same. absurd (never_numbers c.of.result c.of.ensures same)))

pub returns-clause-device : goal.returns-clause-device
returns-clause-device g t c =
    reports_then c.in_ok-next.was c.take_level.ensures.device (reports_then c.in_ok-cleaned.was c.clean.ensures.device c.descend.ensures.device)

-- ---- the calls, whatever the folder tells

pub returns-in_err-level-clause-runs : goal.returns-in_err-level-clause-runs
returns-in_err-level-clause-runs g t c =
    let o = c.args.opened in
    let selection = c.args.course.now.descent.now.selection in
    let s = c.args.course.now.descent.now.settings in
    let first = c.args.folder.now in
    let by = teller_by g.T.InstallWatch.tells g.T.CleanWatch.lists g.T.RemovalWatch.tells g.T.CleanWatch.ends in
    let way = way_by selection o.order s c.args.course.now.bottom in
    let q = c.from_residual.result in
    no_more g.F.Folder by way o.version first c.args.told.now first c.args.told.now q refl (same_tells (g.F.Folder.tells first)) refl (refused_ok q c.in_err-level.field-0.0 (λ e. (e ≡ AtBottom) × IsNextLevel o.version c.args.course.now.bottom None) c.from_residual.ensures.1)

pub returns-in_default-clause-runs : goal.returns-in_default-clause-runs
returns-in_default-clause-runs g t c =
    let o = c.args.opened in
    let selection = c.args.course.now.descent.now.selection in
    let s = c.args.course.now.descent.now.settings in
    let first = c.args.folder.now in
    let by = teller_by g.T.InstallWatch.tells g.T.CleanWatch.lists g.T.RemovalWatch.tells g.T.CleanWatch.ends in
    let way = way_by selection o.order s c.args.course.now.bottom in
    no_more g.F.Folder by way o.version first c.args.told.now first c.args.told.now (Ok AtBottom) refl (same_tells (g.F.Folder.tells first)) refl (refl, subst (λ (n : Option ℕ). IsNextLevel o.version c.args.course.now.bottom n) c.in_default.is c.in_ok-level.ensures.next)

pub returns-in_err-next-clause-runs : goal.returns-in_err-next-clause-runs
returns-in_err-next-clause-runs g t c =
    let o = c.args.opened in
    let selection = c.args.course.now.descent.now.selection in
    let s = c.args.course.now.descent.now.settings in
    let first = c.args.folder.now in
    let by = teller_by g.T.InstallWatch.tells g.T.CleanWatch.lists g.T.RemovalWatch.tells g.T.CleanWatch.ends in
    let way = way_by selection o.order s c.args.course.now.bottom in
    let mid = c.take_level.new.folder in
    let at = subst (λ (n : Option ℕ). IsNextLevel o.version c.args.course.now.bottom n) c.in-Some.is c.in_ok-level.ensures.next in
    let p = err_from_is_err_and c.from_residual-in_err-next.result c.from_residual-in_err-next.ensures.1 in
    subst (λ (r : Result DescentEnd Fault). IsDescentRun g.F.Folder by way o.version (at_by first c.args.told.now) (at_by mid c.take_level.new.told) r) (sym (p.1 ∙ ap (λ (f : Fault). Err f) p.2))
    (last_refused g.F.Folder by way o.version first c.args.told.now c.in-Some.level at mid c.take_level.new.told c.in_err-next.field-0.0 (c.in_err-next.ensures.runs c.args.course.now.bottom))

pub returns-in_default-2-clause-runs : goal.returns-in_default-2-clause-runs
returns-in_default-2-clause-runs g t c =
    let o = c.args.opened in
    let selection = c.args.course.now.descent.now.selection in
    let s = c.args.course.now.descent.now.settings in
    let first = c.args.folder.now in
    let by = teller_by g.T.InstallWatch.tells g.T.CleanWatch.lists g.T.RemovalWatch.tells g.T.CleanWatch.ends in
    let way = way_by selection o.order s c.args.course.now.bottom in
    let mid = c.take_level.new.folder in
    let at = subst (λ (n : Option ℕ). IsNextLevel o.version c.args.course.now.bottom n) c.in-Some.is c.in_ok-level.ensures.next in
    last_stopped g.F.Folder by way o.version first c.args.told.now c.in-Some.level at mid c.take_level.new.told c.in_ok-next.field-0 c.in_default-2.is (c.in_ok-next.ensures.runs c.args.course.now.bottom)

pub returns-in_err-cleaned-clause-runs : goal.returns-in_err-cleaned-clause-runs
returns-in_err-cleaned-clause-runs g t c =
    let o = c.args.opened in
    let selection = c.args.course.now.descent.now.selection in
    let s = c.args.course.now.descent.now.settings in
    let first = c.args.folder.now in
    let by = teller_by g.T.InstallWatch.tells g.T.CleanWatch.lists g.T.RemovalWatch.tells g.T.CleanWatch.ends in
    let way = way_by selection o.order s c.args.course.now.bottom in
    let mid = c.take_level.new.folder in
    let at = subst (λ (n : Option ℕ). IsNextLevel o.version c.args.course.now.bottom n) c.in-Some.is c.in_ok-level.ensures.next in
    let next = c.in-Some-2.next in
    let i = linked g.F.Folder by way o.version first c.args.told.now c.in-Some.level at mid c.take_level.new.told c.in_ok-next.field-0 next c.in-Some-2.is (c.in_ok-next.ensures.runs c.args.course.now.bottom) in
    let after = c.clean.new.folder in
    let told = c.clean.new.told in
    let p = err_from_is_err_and c.from_residual-in_err-cleaned.result c.from_residual-in_err-cleaned.ensures.1 in
    subst (λ (r : Result DescentEnd Fault). IsDescentRun g.F.Folder by way o.version (at_by first c.args.told.now) (at_by after told) r) (sym (p.1 ∙ ap (λ (f : Fault). Err f) p.2))
    (removal_refused g.F.Folder by way o.version first c.args.told.now c.in-Some.level at mid c.take_level.new.told next i after told c.in_err-cleaned.field-0.0 c.in_err-cleaned.ensures.runs)

pub returns-in_default-3-clause-runs : goal.returns-in_default-3-clause-runs
returns-in_default-3-clause-runs g t c =
    let o = c.args.opened in
    let selection = c.args.course.now.descent.now.selection in
    let s = c.args.course.now.descent.now.settings in
    let first = c.args.folder.now in
    let by = teller_by g.T.InstallWatch.tells g.T.CleanWatch.lists g.T.RemovalWatch.tells g.T.CleanWatch.ends in
    let way = way_by selection o.order s c.args.course.now.bottom in
    let mid = c.take_level.new.folder in
    let at = subst (λ (n : Option ℕ). IsNextLevel o.version c.args.course.now.bottom n) c.in-Some.is c.in_ok-level.ensures.next in
    let next = c.in-Some-2.next in
    let i = linked g.F.Folder by way o.version first c.args.told.now c.in-Some.level at mid c.take_level.new.told c.in_ok-next.field-0 next c.in-Some-2.is (c.in_ok-next.ensures.runs c.args.course.now.bottom) in
    let after = c.clean.new.folder in
    let told = c.clean.new.told in
    removal_stopped g.F.Folder by way o.version first c.args.told.now c.in-Some.level at mid c.take_level.new.told next i after told c.in_ok-cleaned.field-0 c.in_default-3.is c.in_ok-cleaned.ensures.runs

pub returns-then-steps-eq0-clause-runs : goal.returns-then-steps-eq0-clause-runs
returns-then-steps-eq0-clause-runs g t c =
    let o = c.args.opened in
    let selection = c.args.course.now.descent.now.selection in
    let s = c.args.course.now.descent.now.settings in
    let first = c.args.folder.now in
    let by = teller_by g.T.InstallWatch.tells g.T.CleanWatch.lists g.T.RemovalWatch.tells g.T.CleanWatch.ends in
    let way = way_by selection o.order s c.args.course.now.bottom in
    let mid = c.take_level.new.folder in
    let at = subst (λ (n : Option ℕ). IsNextLevel o.version c.args.course.now.bottom n) c.in-Some.is c.in_ok-level.ensures.next in
    let next = c.in-Some-2.next in
    let i = linked g.F.Folder by way o.version first c.args.told.now c.in-Some.level at mid c.take_level.new.told c.in_ok-next.field-0 next c.in-Some-2.is (c.in_ok-next.ensures.runs c.args.course.now.bottom) in
    let after = c.clean.new.folder in
    let told = c.clean.new.told in
    let cleaned = c.in-Some-3.cleaned in
    let again = subst (λ (x : Option SyncedVersion). IfSome x (λ n. (n.order ≡ next.order) × (n.version ≡ next.version) × (n.manifest ≡ next.manifest))) c.in-Some-3.is c.in_ok-cleaned.ensures.reopened in
    let q : Result DescentEnd Fault = Err c.of.result in
    row_more g.F.Folder by way o.version first c.args.told.now c.in-Some.level at mid c.take_level.new.told next i after told c.in_ok-cleaned.field-0 cleaned (at_by after told) q c.in-Some-3.is again.0 again.1 c.in_ok-cleaned.ensures.runs
    (no_more g.F.Folder by (way_by selection cleaned.order s c.args.course.now.bottom) cleaned.version after told after told q refl (same_tells (g.F.Folder.tells after)) refl tt)

pub returns-clause-runs : goal.returns-clause-runs
returns-clause-runs g t c =
    let o = c.args.opened in
    let selection = c.args.course.now.descent.now.selection in
    let s = c.args.course.now.descent.now.settings in
    let first = c.args.folder.now in
    let by = teller_by g.T.InstallWatch.tells g.T.CleanWatch.lists g.T.RemovalWatch.tells g.T.CleanWatch.ends in
    let way = way_by selection o.order s c.args.course.now.bottom in
    let mid = c.take_level.new.folder in
    let at = subst (λ (n : Option ℕ). IsNextLevel o.version c.args.course.now.bottom n) c.in-Some.is c.in_ok-level.ensures.next in
    let next = c.in-Some-2.next in
    let i = linked g.F.Folder by way o.version first c.args.told.now c.in-Some.level at mid c.take_level.new.told c.in_ok-next.field-0 next c.in-Some-2.is (c.in_ok-next.ensures.runs c.args.course.now.bottom) in
    let after = c.clean.new.folder in
    let told = c.clean.new.told in
    let cleaned = c.in-Some-3.cleaned in
    let again = subst (λ (x : Option SyncedVersion). IfSome x (λ n. (n.order ≡ next.order) × (n.version ≡ next.version) × (n.manifest ≡ next.manifest))) c.in-Some-3.is c.in_ok-cleaned.ensures.reopened in
    row_more g.F.Folder by way o.version first c.args.told.now c.in-Some.level at mid c.take_level.new.told next i after told c.in_ok-cleaned.field-0 cleaned (at_by c.descend.new.folder c.descend.new.told) c.descend.result c.in-Some-3.is again.0 again.1 c.in_ok-cleaned.ensures.runs c.descend.ensures.runs
