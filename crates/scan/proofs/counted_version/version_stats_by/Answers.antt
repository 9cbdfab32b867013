use Rattle.std.proofs.Common.{◌≡◌, ℕ, ◌≤◌, ◌-◌, ◌^◌, Ok, Err, subst, inl, inr, arith}
use Rattle.std.specs.Prelude.{◌⊎◌}
use Rattle.folder.specs.Levels.{file_numbers}
use Rattle.folder.specs.OpenAnswer.{IsStopped}
use Rattle.folder.specs.ReadsAs.{IsFileIn}
use Rattle.checks.specs.TestedTables.{IsTested}
use Rattle.checks.proofs.FolderTests.{told_still}
use Rattle.checks.proofs.HeldAnswers.{held_same}
use Rattle.folder.proofs.OpeningLemmas.{answers_since}
use Rattle.scan.specs.Stats.{seen_stats, version_stats}
use Rattle.scan.specs.TestedStats.{IsTestedStats}
use Rattle.scan.proofs.ScanAnswers.{loaded_told}
use Rattle.scan.proofs.StatsAnswers.{answers_handed, counted_tables, lawful_stats, refused_stats}
use Rattle.scan.proofs.counted_version.version_stats_by.Goals as goal

pub returns-in_err-found-clause-stats : goal.returns-in_err-found-clause-stats
returns-in_err-found-clause-stats g c files told =
    let cmp = g.C.Comparator.cmp in
    let v = c.args.version.now in
    let failed = g.F.Folder.failed in
    let before = failed c.args.folder.now in
    let now = failed c.test_and_hold.new.folder in
    let e = c.in_err-found.field-0.0 in
    answers_handed seen_stats before now c.from_residual.result e (IsStopped before now e ⊎ IsTested (IsFileIn files) cmp v (Err e)) (IsTestedStats (IsFileIn files) cmp v) c.from_residual.ensures.1 (c.in_err-found.ensures.answer files told) (λ h. elim h [
      | inl stopped ↦ inl stopped
      | inr refused ↦ inr (refused_stats cmp files v e refused)
    ])

pub returns-clause-stats : goal.returns-clause-stats
returns-clause-stats g c files told =
    let cmp = g.C.Comparator.cmp in
    let v = c.args.version.now in
    let failed = g.F.Folder.failed in
    let tells = g.F.Folder.tells in
    let f = c.unverified_stats in
    let middle = c.test_and_hold.new.folder in
    let counted = counted_tables cmp files v c.in_ok-found.found.tested (c.in_ok-found.ensures.answer files told) in
    let found = counted.found in
    let fits : c.in_ok-found.found.tested.entries ≤ 2 ^ 128 - 1 = grind arith in
    let still = told_still (tells c.args.folder.now) (tells middle) files c.test_and_hold.ensures.reads.same told in
    let own = held_same cmp (tells c.args.folder.now) (tells middle) c.test_and_hold.ensures.reads.same c.in_ok-found.found.tables c.in_ok-found.ensures.held in
    answers_since seen_stats (failed c.args.folder.now) (failed middle) (failed f.new.folder) f.result (λ answer. answer ≡ Ok (version_stats cmp v found.tables)) (IsTestedStats (IsFileIn files) cmp v) (lawful_stats cmp files v found) c.test_and_hold.ensures.device.later f.ensures.device.later
    (f.ensures.stats files found.loaded found.tables still (loaded_told (tells middle) files (file_numbers cmp v) (Ok found.loaded) still found.there) found.lawful (subst (λ (n : ℕ). n ≤ 2 ^ 128 - 1) counted.entries fits) own)
