use Rattle.std.proofs.Common.{Err, Ok, Result, arith, inl, inr, refl, subst, ◌⊎◌}
use Rattle.edit.specs.Answers.{UnlessMemory}
use Rattle.edit.specs.fault.Fault.{Fault}
use Rattle.folder.proofs.CountLemmas.{steady}
use Rattle.folder.proofs.ReportLemmas.{reports_handed, reports_steady, reports_then}
use Rattle.folder.specs.OpenAnswer.{IsStopped}
use Rattle.folder.specs.Orders.{order_cmp}
use Rattle.checks.proofs.FolderTests.{told_still}
use Rattle.store.proofs.Flow.{no_value}
use Rattle.store.proofs.NoDevice.{handed_memory}
use Rattle.store.proofs.StepPart.{refused_err}
use Rattle.store.specs.Cleaning.{teller_by}
use Rattle.store.specs.Outcome.{IsTestAnswer}
use Rattle.levels.proofs.Descending.{descended_since, same_tells}
use Rattle.levels.proofs.DescentRows.{no_more}
use Rattle.levels.specs.DescentLeft.{folder_version}
use Rattle.levels.specs.LevelMade.{way_by}
use Rattle.levels.specs.LevelTaken.{IsBottomBelow}
use Rattle.levels.specs.declared.descent_end.DescentEnd.{DescentEnd}
use Rattle.levels.specs.declared.descent_end.DescentEnd.TheVariants.{AtBottom}
use Rattle.levels.proofs.all_levels.compact_levels.Goals as goal
use Rattle.store.proofs.Descending.{by_memory}

pub descend-requires-clause-low : goal.descend-requires-clause-low
descend-requires-clause-low g c κs within = (subst (IsBottomBelow c.args.opened.version) c.in-Some.is c.in_ok-bottom.ensures.bottom).1

-- ---- what is left

pub returns-in_err-bottom-clause-left : goal.returns-in_err-bottom-clause-left
returns-in_err-bottom-clause-left g c files told current opened =
    let o = c.args.opened in
    let failed = g.F.Folder.failed in
    let e = c.in_err-bottom.field-0.0 in
    let h = c.from_residual.ensures.1 in
    let why : Fault → Type 0 = λ x. IsStopped (failed c.args.folder.now) (failed c.args.folder.now) x ⊎ IsTestAnswer c.args.descent.now.test files (order_cmp o.order) o.version (Err x) in
    inl (
      record { calls = refl; same = same_tells (g.F.Folder.tells c.args.folder.now); refused = no_value c.from_residual.result _ h },
      refl,
      refused_err c.from_residual.result e (λ x. UnlessMemory x (why x)) h (by_memory e why c.in_err-bottom.ensures.memory),
    )

pub returns-in_default-clause-left : goal.returns-in_default-clause-left
returns-in_default-clause-left g c files told current opened =
    let o = c.args.opened in
    let none = subst (IsBottomBelow o.version) c.in_default.is c.in_ok-bottom.ensures.bottom in
    inr (inl (none.0, none.1, none.2, record { calls = refl; same = same_tells (g.F.Folder.tells c.args.folder.now); untold = refl }, refl))

pub returns-in_err-test_asked-clause-left : goal.returns-in_err-test_asked-clause-left
returns-in_err-test_asked-clause-left g c files told current opened =
    let e = c.in_err-test_asked.field-0.0 in
    let h = c.from_residual-in_err-test_asked.ensures.1 in
    let why : Fault → Type 0 = λ x. IsStopped (g.F.Folder.failed c.args.folder.now) (g.F.Folder.failed c.test_asked.new.folder) x ⊎ IsTestAnswer c.args.descent.now.test files (order_cmp c.args.opened.order) c.args.opened.version (Err x) in
    inl (
      record { calls = c.test_asked.ensures.reads.calls; same = c.test_asked.ensures.reads.same; refused = no_value c.from_residual-in_err-test_asked.result _ h },
      refl,
      refused_err c.from_residual-in_err-test_asked.result e (λ x. UnlessMemory x (why x)) h (c.in_err-test_asked.ensures.answer files told),
    )

pub returns-clause-left : goal.returns-clause-left
returns-clause-left g c files told current opened =
    let o = c.args.opened in
    let calls = g.F.Folder.calls in
    let tells = g.F.Folder.tells in
    let failed = g.F.Folder.failed in
    let first = c.args.folder.now in
    let mid = c.test_asked.new.folder in
    let last = c.descend.new.folder in
    let count = steady (failed first) (failed first) (failed mid) _ c.test_asked.result c.in_ok-test_asked.was refl c.test_asked.ensures.device.later c.test_asked.ensures.device.at_once in
    let now = told_still (tells first) (tells mid) files c.test_asked.ensures.reads.same told in
    inr (inr (record {
      passed = c.in_ok-test_asked.ensures.answer files told;
      bottom = c.in-Some.bottom;
      is_bottom = subst (IsBottomBelow o.version) c.in-Some.is c.in_ok-bottom.ensures.bottom;
      descended = λ loaded tables reads sound.
          descended_since (way_by c.args.descent.now.selection o.order c.args.descent.now.settings c.in-Some.bottom) (folder_version o.version o.manifest loaded) tables (calls first) (calls mid) (calls last) (tells first) (tells mid) (tells last)
          (failed first) (failed mid) (failed last) c.descend.result c.test_asked.ensures.reads.calls count (c.descend.ensures.left files loaded tables now current reads sound (omega arith));
    }))

-- ---- the device

pub returns-in_err-bottom-clause-device : goal.returns-in_err-bottom-clause-device
returns-in_err-bottom-clause-device g c =
    reports_steady c.from_residual.result refl (handed_memory c.from_residual.result c.in_err-bottom.field-0.0 c.from_residual.ensures.1 c.in_err-bottom.ensures.memory)

pub returns-in_default-clause-device : goal.returns-in_default-clause-device
returns-in_default-clause-device g c = let q : Result DescentEnd Fault = Ok AtBottom in reports_steady q refl tt

pub returns-in_err-test_asked-clause-device : goal.returns-in_err-test_asked-clause-device
returns-in_err-test_asked-clause-device g c = reports_handed c.from_residual-in_err-test_asked.result c.in_err-test_asked.was c.test_asked.ensures.device c.from_residual-in_err-test_asked.ensures.1

pub returns-clause-device : goal.returns-clause-device
returns-clause-device g c = reports_then c.in_ok-test_asked.was c.test_asked.ensures.device c.descend.ensures.device

-- ---- the calls, whatever the folder tells

pub returns-in_err-bottom-clause-runs : goal.returns-in_err-bottom-clause-runs
returns-in_err-bottom-clause-runs g c = inl (record { calls = refl; same = same_tells (g.F.Folder.tells c.args.folder.now); refused = no_value c.from_residual.result _ c.from_residual.ensures.1 }, refl)

pub returns-in_default-clause-runs : goal.returns-in_default-clause-runs
returns-in_default-clause-runs g c =
    let o = c.args.opened in
    let first = c.args.folder.now in
    let none = subst (IsBottomBelow o.version) c.in_default.is c.in_ok-bottom.ensures.bottom in
    let by = teller_by g.T.InstallWatch.tells g.T.CleanWatch.lists g.T.RemovalWatch.tells g.T.CleanWatch.ends in
    let way = way_by c.args.descent.now.selection o.order c.args.descent.now.settings none.0 in
    inr (
      none.0,
      none.1,
      first,
      record { same = same_tells (g.F.Folder.tells first); calls = refl },
      no_more g.F.Folder by way o.version first c.args.told.now first c.args.told.now (Ok AtBottom) refl (same_tells (g.F.Folder.tells first)) refl (refl, none.2),
    )

pub returns-in_err-test_asked-clause-runs : goal.returns-in_err-test_asked-clause-runs
returns-in_err-test_asked-clause-runs g c =
    inl (record { calls = c.test_asked.ensures.reads.calls; same = c.test_asked.ensures.reads.same; refused = no_value c.from_residual-in_err-test_asked.result _ c.from_residual-in_err-test_asked.ensures.1 }, refl)

pub returns-clause-runs : goal.returns-clause-runs
returns-clause-runs g c = inr (c.in-Some.bottom, subst (IsBottomBelow c.args.opened.version) c.in-Some.is c.in_ok-bottom.ensures.bottom, c.test_asked.new.folder, c.test_asked.ensures.reads, c.descend.ensures.runs)
