use Rattle.std.proofs.Common.{Bor, ◌≡◌, List, map, ap, ◌∙◌}
use Rattle.std.proofs.lemmas.Bool.{not-false, not-true}
use Rattle.folder.specs.meta.FileMeta.{FileMeta}
use Rattle.folder.proofs.ReportLemmas.{reports_handed, reports_then}
use Rattle.checks.proofs.FolderTests.{told_still}
use Rattle.reads.specs.FileList.{level_file_in}
use Rattle.faults.specs.Findings.{found_in, searched_found}
use Rattle.faults.proofs.FaultAnswers.{memory_of, stopped_only, stopped_since}
use Rattle.faults.proofs.VersionSteps.{found_is, metas_are, metas_sound, refused_between, refused_files, refused_first, refused_keys, stopped_files, told_keys}
use Rattle.faults.proofs.version_faults.all_faults_by.Goals as goal

abbrev now_of : Bor FileMeta → FileMeta
now_of f = f.now

pub returns-in_err-files-clause-told : goal.returns-in_err-files-clause-told
returns-in_err-files-clause-told g c files told =
    let before = g.F.Folder.failed c.args.folder.now in
    let e = c.in_err-files.field-0.0 in
    refused_first g.C.Comparator.cmp files c.args.version.now g.T.FaultTaker.tells c.args.taker.now before before c.from_residual.result e c.from_residual.ensures.1 (memory_of before before e c.in_err-files.ensures.memory)

pub returns-in_err-tested-clause-told : goal.returns-in_err-tested-clause-told
returns-in_err-tested-clause-told g c files told =
    let before = g.F.Folder.failed c.args.folder.now in
    let now = g.F.Folder.failed c.tested_files.new.folder in
    let e = c.in_err-tested.field-0.0 in
    refused_first g.C.Comparator.cmp files c.args.version.now g.T.FaultTaker.tells c.args.taker.now before now c.from_residual-in_err-tested.result e c.from_residual-in_err-tested.ensures.1
    (stopped_only before now e (Unit {0} → ⊥) (λ no. no tt) (c.in_err-tested.ensures.answer files told))

pub returns-in_err-begun-clause-told : goal.returns-in_err-begun-clause-told
returns-in_err-begun-clause-told g c files told =
    let failed = g.F.Folder.failed in
    let before = failed c.args.folder.now in
    let is_found = found_is g.C.Comparator.cmp files c.args.version.now (map level_file_in c.deref.result.now) (map found_in c.in_ok-tested.tested.items) (map found_in c.deref-2.result.now) (ap (map level_file_in) c.deref.ensures.value ∙ c.in_ok-files.ensures.order) (c.in_ok-tested.ensures.answer files told) (ap (map found_in) c.deref-2.ensures.value) in
    let now = failed c.tested_files.new.folder in
    let e = c.in_err-begun.field-0.0 in
    refused_files g.C.Comparator.cmp files c.args.version.now g.T.FaultTaker.tells c.args.taker.now before c.next_file.result (map found_in c.deref-2.result.now) c.next_file.ensures is_found c.tell_files.new.taker now c.from_residual-in_err-begun.result e c.from_residual-in_err-begun.ensures.1 c.in_err-begun.ensures.told
    (memory_of before now e c.in_err-begun.ensures.memory)

pub returns-then-not-begun-clause-told : goal.returns-then-not-begun-clause-told
returns-then-not-begun-clause-told g c files told =
    let failed = g.F.Folder.failed in
    let before = failed c.args.folder.now in
    let is_found = found_is g.C.Comparator.cmp files c.args.version.now (map level_file_in c.deref.result.now) (map found_in c.in_ok-tested.tested.items) (map found_in c.deref-2.result.now) (ap (map level_file_in) c.deref.ensures.value ∙ c.in_ok-files.ensures.order) (c.in_ok-tested.ensures.answer files told) (ap (map found_in) c.deref-2.ensures.value) in
    stopped_files g.C.Comparator.cmp files c.args.version.now g.T.FaultTaker.tells c.args.taker.now before c.next_file.result (map found_in c.deref-2.result.now) c.next_file.ensures is_found c.tell_files.new.taker c.in_ok-begun.begun c.in_ok-begun.ensures.told (failed c.tested_files.new.folder) (not-true _ c.if-not-begun.true)

pub returns-in_err-searched-clause-told : goal.returns-in_err-searched-clause-told
returns-in_err-searched-clause-told g c files told =
    let failed = g.F.Folder.failed in
    let before = failed c.args.folder.now in
    let is_found = found_is g.C.Comparator.cmp files c.args.version.now (map level_file_in c.deref.result.now) (map found_in c.in_ok-tested.tested.items) (map found_in c.deref-2.result.now) (ap (map level_file_in) c.deref.ensures.value ∙ c.in_ok-files.ensures.order) (c.in_ok-tested.ensures.answer files told) (ap (map found_in) c.deref-2.ensures.value) in
    let now = failed c.tested_files.new.folder in
    let e = c.in_err-searched.field-0.0 in
    refused_between g.C.Comparator.cmp files c.args.version.now g.T.FaultTaker.tells c.args.taker.now before c.next_file.result (map found_in c.deref-2.result.now) c.next_file.ensures is_found c.tell_files.new.taker c.in_ok-begun.begun c.in_ok-begun.ensures.told (not-false _ c.if-not-begun.false) now c.from_residual-in_err-searched.result e c.from_residual-in_err-searched.ensures.1
    (memory_of before now e c.in_err-searched.ensures.memory)

pub returns-in_err-split-clause-told : goal.returns-in_err-split-clause-told
returns-in_err-split-clause-told g c files told =
    let failed = g.F.Folder.failed in
    let before = failed c.args.folder.now in
    let is_found = found_is g.C.Comparator.cmp files c.args.version.now (map level_file_in c.deref.result.now) (map found_in c.in_ok-tested.tested.items) (map found_in c.deref-2.result.now) (ap (map level_file_in) c.deref.ensures.value ∙ c.in_ok-files.ensures.order) (c.in_ok-tested.ensures.answer files told) (ap (map found_in) c.deref-2.ensures.value) in
    let now = failed c.tested_files.new.folder in
    let e = c.in_err-split.field-0.0 in
    refused_between g.C.Comparator.cmp files c.args.version.now g.T.FaultTaker.tells c.args.taker.now before c.next_file.result (map found_in c.deref-2.result.now) c.next_file.ensures is_found c.tell_files.new.taker c.in_ok-begun.begun c.in_ok-begun.ensures.told (not-false _ c.if-not-begun.false) now c.from_residual-in_err-split.result e c.from_residual-in_err-split.ensures.1
    (memory_of before now e c.in_err-split.ensures.memory)

pub returns-in_err-told-clause-told : goal.returns-in_err-told-clause-told
returns-in_err-told-clause-told g c files told =
    let failed = g.F.Folder.failed in
    let before = failed c.args.folder.now in
    let is_found = found_is g.C.Comparator.cmp files c.args.version.now (map level_file_in c.deref.result.now) (map found_in c.in_ok-tested.tested.items) (map found_in c.deref-2.result.now) (ap (map level_file_in) c.deref.ensures.value ∙ c.in_ok-files.ensures.order) (c.in_ok-tested.ensures.answer files told) (ap (map found_in) c.deref-2.ensures.value) in
    let met = g.met.C.Comparator g.world.𝓛 g.world.𝓜 g.world.𝓡 ((λ s x. x), (λ x. x), (λ x. x), λ x. x) in
    let is_again = found_is g.C.Comparator.cmp files c.args.version.now (map level_file_in c.deref.result.now) (map found_in c.in_ok-tested.tested.items) (map found_in c.deref-3.result.now) (ap (map level_file_in) c.deref.ensures.value ∙ c.in_ok-files.ensures.order) (c.in_ok-tested.ensures.answer files told) (ap (map found_in) c.deref-3.ensures.value) in
    let metas : List FileMeta = map now_of c.deref-5.result.now in
    let searched : metas ≡ searched_found (map found_in c.deref-3.result.now) = ap (map now_of) c.deref-5.ensures.value ∙ c.in_ok-searched.ensures.searched in
    let still = told_still (g.F.Folder.tells c.args.folder.now) (g.F.Folder.tells c.tested_files.new.folder) files c.tested_files.ensures.reads.same told in
    let sound = metas_sound g.C.Comparator.cmp files c.args.version.now (map found_in c.deref-3.result.now) is_again metas searched in
    let now = failed c.tell_ranges.new.folder in
    let e = c.in_err-told.field-0.0 in
    refused_keys g.C.Comparator.cmp files c.args.version.now g.T.FaultTaker.tells c.args.taker.now before c.next_file.result (map found_in c.deref-2.result.now) c.next_file.ensures is_found c.tell_files.new.taker c.in_ok-begun.begun c.in_ok-begun.ensures.told (not-false _ c.if-not-begun.false) met.total met.exact c.in_ok-split.split c.tell_ranges.ensures.cover metas (metas_are g.C.Comparator.cmp files c.args.version.now (map found_in c.deref-3.result.now) is_again metas searched) c.tell_ranges.new.taker now c.from_residual-in_err-told.result e c.from_residual-in_err-told.ensures.1
    (c.in_err-told.ensures.told files still sound)
    (stopped_since before (failed c.tested_files.new.folder) now e c.tested_files.ensures.device.later c.tell_ranges.ensures.device.later (c.in_err-told.ensures.errors files still sound))

pub returns-in_err-told-clause-device : goal.returns-in_err-told-clause-device
returns-in_err-told-clause-device g c =
    reports_then c.in_ok-tested.was c.tested_files.ensures.device
    (reports_handed c.from_residual-in_err-told.result c.in_err-told.was c.tell_ranges.ensures.device c.from_residual-in_err-told.ensures.1)

pub returns-clause-told : goal.returns-clause-told
returns-clause-told g c files told =
    let failed = g.F.Folder.failed in
    let before = failed c.args.folder.now in
    let is_found = found_is g.C.Comparator.cmp files c.args.version.now (map level_file_in c.deref.result.now) (map found_in c.in_ok-tested.tested.items) (map found_in c.deref-2.result.now) (ap (map level_file_in) c.deref.ensures.value ∙ c.in_ok-files.ensures.order) (c.in_ok-tested.ensures.answer files told) (ap (map found_in) c.deref-2.ensures.value) in
    let met = g.met.C.Comparator g.world.𝓛 g.world.𝓜 g.world.𝓡 ((λ s x. x), (λ x. x), (λ x. x), λ x. x) in
    let is_again = found_is g.C.Comparator.cmp files c.args.version.now (map level_file_in c.deref.result.now) (map found_in c.in_ok-tested.tested.items) (map found_in c.deref-3.result.now) (ap (map level_file_in) c.deref.ensures.value ∙ c.in_ok-files.ensures.order) (c.in_ok-tested.ensures.answer files told) (ap (map found_in) c.deref-3.ensures.value) in
    let metas : List FileMeta = map now_of c.deref-5.result.now in
    let searched : metas ≡ searched_found (map found_in c.deref-3.result.now) = ap (map now_of) c.deref-5.ensures.value ∙ c.in_ok-searched.ensures.searched in
    let still = told_still (g.F.Folder.tells c.args.folder.now) (g.F.Folder.tells c.tested_files.new.folder) files c.tested_files.ensures.reads.same told in
    let sound = metas_sound g.C.Comparator.cmp files c.args.version.now (map found_in c.deref-3.result.now) is_again metas searched in
    told_keys g.C.Comparator.cmp files c.args.version.now g.T.FaultTaker.tells c.args.taker.now before c.next_file.result (map found_in c.deref-2.result.now) c.next_file.ensures is_found c.tell_files.new.taker c.in_ok-begun.begun c.in_ok-begun.ensures.told (not-false _ c.if-not-begun.false) met.total met.exact c.in_ok-split.split c.tell_ranges.ensures.cover metas (metas_are g.C.Comparator.cmp files c.args.version.now (map found_in c.deref-3.result.now) is_again metas searched) c.tell_ranges.new.taker (failed c.tell_ranges.new.folder) c.in_ok-told.told
    (c.in_ok-told.ensures.told files still sound)
