use Rattle.std.proofs.Common.{◌≡◌, Ok, Err, refl, inl, inr}
use Rattle.std.specs.Prelude.{◌⊎◌}
use Rattle.table.specs.Answers.{UnlessMemory}
use Rattle.folder.proofs.CountLemmas.{steady}
use Rattle.folder.specs.Levels.{file_numbers}
use Rattle.folder.specs.OpenAnswer.{IsStopped}
use Rattle.folder.specs.ReadsAs.{IsFileIn}
use Rattle.checks.specs.TestedTables.{IsTested}
use Rattle.checks.proofs.FolderTests.{told_still}
use Rattle.checks.proofs.HeldAnswers.{held_same}
use Rattle.scan.proofs.ScanAnswers.{handed_err, lawful_tables, loaded_told, scan_since}
use Rattle.scan.proofs.tested_scan.scan_version_by.Goals as goal

pub returns-in_err-found-clause-rows : goal.returns-in_err-found-clause-rows
returns-in_err-found-clause-rows g c files told =
    let cmp = g.C.Comparator.cmp in
    let v = c.args.version.now in
    let failed = g.F.Folder.failed in
    inr (
      refl,
      handed_err c.from_residual.result c.in_err-found.field-0.0 (λ e. UnlessMemory e (IsStopped (failed c.args.folder.now) (failed c.test_and_hold.new.folder) e ⊎ IsTested (IsFileIn files) cmp v (Err e))) c.from_residual.ensures.1
          (c.in_err-found.ensures.answer files told),
    )

pub returns-clause-rows : goal.returns-clause-rows
returns-clause-rows g c files told =
    let cmp = g.C.Comparator.cmp in
    let v = c.args.version.now in
    let failed = g.F.Folder.failed in
    let tells = g.F.Folder.tells in
    let f = c.scan_held in
    let middle = c.test_and_hold.new.folder in
    let found = lawful_tables cmp files v c.in_ok-found.found.tested (c.in_ok-found.ensures.answer files told) in
    let still = told_still (tells c.args.folder.now) (tells middle) files c.test_and_hold.ensures.reads.same told in
    let same : failed middle ≡ failed c.args.folder.now = steady (failed c.args.folder.now) (failed c.args.folder.now) (failed middle) c.in_ok-found.found c.test_and_hold.result c.in_ok-found.was refl c.test_and_hold.ensures.device.later c.test_and_hold.ensures.device.at_once in
    let own = held_same cmp (tells c.args.folder.now) (tells middle) c.test_and_hold.ensures.reads.same c.in_ok-found.found.tables c.in_ok-found.ensures.held in
    inl (record {
      loaded = found.loaded;
      tables = found.tables;
      there = found.there;
      lawful = found.lawful;
      scan = scan_since g.T.RowTaker.tells cmp v found.tables c.args.choice c.args.taker.now f.new.taker (failed c.args.folder.now) (failed middle) (failed f.new.folder) f.result same
          (f.ensures.rows files found.loaded found.tables still (loaded_told (tells middle) files (file_numbers cmp v) (Ok found.loaded) still found.there) found.lawful own);
    })
