use Rattle.std.proofs.Common.{◌≡◌, ℕ, Ok, Err, None, Option, Some, arith, codes, inl}
use Rattle.folder.specs.Version.{State}
use Rattle.folder.proofs.CountLemmas.{later_still}
use Rattle.folder.proofs.OpeningLemmas.{hands_on}
use Rattle.folder.proofs.ReportLemmas.{reports_handed, reports_then}
use Rattle.folder.specs.Calls.{Files, Tells}
use Rattle.folder.specs.Names.{current_text}
use Rattle.folder.specs.OpenAnswer.{FolderAnswers, IsOpened}
use Rattle.folder.specs.Orders.{order_cmp, order_short_keys}
use Rattle.folder.specs.ReadsAs.{IsFileIn}
use Rattle.folder.specs.declared.order.Order.{Order}
use Rattle.install.proofs.Changes.{change_by}
use Rattle.store.specs.Answers.{IsCompacted, IsFolderCompacted}
use Rattle.store.specs.OrderView.{order_view}
use Rattle.store.specs.Runs.{IsLevelRun}
use Rattle.store.specs.Step.{step_in}
use Rattle.store.specs.StepLeft.{IsVersionLeft}
use Rattle.store.proofs.Flow.{answers_behind, first_refused, no_value, opened_in, stopped_on, told_still}
use Rattle.store.proofs.InstallPart.{of_opened, sync_refused, synced_left}
use Rattle.store.proofs.RunPart.{sync_stopped, synced_run}
use Rattle.store.proofs.folder_compaction.compact_dir.Goals as goal

abbrev asked : ℕ → Option ℕ
asked memory = Some memory

is_asked : (memory : ℕ) → asked memory ≡ None → ⊥
is_asked memory h = cc h

pub returns-in_err-opened-clause-answer : goal.returns-in_err-opened-clause-answer
returns-in_err-opened-clause-answer g c files told =
    let tells = g.F.Folder.tells in
    let failed = g.F.Folder.failed in
    let e = c.in_err-opened.field-0.0 in
    let next = λ (opened : Order × State). IsCompacted (Some 0) (order_cmp opened.0) (order_short_keys opened.0) files opened.1 c.args.level c.args.settings.now in
    hands_on step_in (failed c.args.folder.now) (failed c.args.folder.now) (failed c.open.new.folder) c.from_residual.result e (IsOpened (tells c.args.folder.now)) (IsFolderCompacted files c.args.level c.args.settings.now)
    c.from_residual.ensures.1 (omega arith) c.open.ensures.device.later c.in_err-opened.ensures.answer
    (λ h. first_refused (IsOpened (IsFileIn files)) next e (opened_in (tells c.args.folder.now) files (Err e) told h))

pub returns-in_err-opened-clause-left : goal.returns-in_err-opened-clause-left
returns-in_err-opened-clause-left g c files told =
    inl (record { calls = c.open.ensures.reads.calls; same = c.open.ensures.reads.same; refused = no_value c.from_residual.result _ c.from_residual.ensures.1 })

pub returns-in_err-opened-clause-runs : goal.returns-in_err-opened-clause-runs
returns-in_err-opened-clause-runs g c =
    inl (record { calls = c.open.ensures.reads.calls; same = c.open.ensures.reads.same; refused = no_value c.from_residual.result _ c.from_residual.ensures.1 })

pub returns-in_err-opened-clause-device : goal.returns-in_err-opened-clause-device
returns-in_err-opened-clause-device g c = reports_handed c.from_residual.result c.in_err-opened.was c.open.ensures.device c.from_residual.ensures.1

pub returns-in_err-synced-clause-answer : goal.returns-in_err-synced-clause-answer
returns-in_err-synced-clause-answer g c files told =
    let failed = g.F.Folder.failed in
    stopped_on step_in (failed c.args.folder.now) (failed c.open.new.folder) (failed c.sync_version.new.folder) c.from_residual-in_err-synced.result c.in_err-synced.field-0.0
    (IsFolderCompacted files c.args.level c.args.settings.now)
    c.from_residual-in_err-synced.ensures.1 c.open.ensures.device.later c.sync_version.ensures.device.later c.in_err-synced.ensures.refused

pub returns-in_err-synced-clause-left : goal.returns-in_err-synced-clause-left
returns-in_err-synced-clause-left g c files told =
    let tells = g.F.Folder.tells in
    let calls = g.F.Folder.calls in
    let o = c.in_ok-opened.opened in
    sync_refused o.order o.version o.manifest files c.args.level c.args.settings.now (calls c.args.folder.now) (calls c.open.new.folder) (calls c.sync_version.new.folder)
    (tells c.args.folder.now) (tells c.open.new.folder) (tells c.sync_version.new.folder) c.sync_version.result c.from_residual-in_err-synced.result
    (opened_in (tells c.args.folder.now) files (Ok (o.order, o.version)) told c.in_ok-opened.ensures.answer)
    ((told (codes "CURRENT") (Some (current_text o.manifest))).0 c.in_ok-opened.ensures.named)
    c.open.ensures.reads.calls c.open.ensures.reads.same c.sync_version.ensures.runs (no_value c.from_residual-in_err-synced.result _ c.from_residual-in_err-synced.ensures.1)

pub returns-in_err-synced-clause-runs : goal.returns-in_err-synced-clause-runs
returns-in_err-synced-clause-runs g c =
    let tells = g.F.Folder.tells in
    let calls = g.F.Folder.calls in
    let o = c.in_ok-opened.opened in
    sync_stopped g.F.Folder c.args.folder.now c.sync_version.new.folder o.order o.version o.manifest c.args.level c.args.settings.now (calls c.open.new.folder) (tells c.open.new.folder) c.sync_version.result c.from_residual-in_err-synced.result
    c.in_ok-opened.ensures.answer c.in_ok-opened.ensures.named
    c.open.ensures.reads.calls c.open.ensures.reads.same c.sync_version.ensures.runs (no_value c.from_residual-in_err-synced.result _ c.from_residual-in_err-synced.ensures.1)

pub returns-in_err-synced-clause-device : goal.returns-in_err-synced-clause-device
returns-in_err-synced-clause-device g c =
    reports_then c.in_ok-opened.was c.open.ensures.device
    (reports_handed c.from_residual-in_err-synced.result c.in_err-synced.was c.sync_version.ensures.device c.from_residual-in_err-synced.ensures.1)

pub returns-clause-answer : goal.returns-clause-answer
returns-clause-answer g c files told =
    let tells = g.F.Folder.tells in
    let failed = g.F.Folder.failed in
    let o = c.in_ok-opened.opened in
    let opened : Order × State = (o.order, o.version) in
    let next = λ (opened : Order × State). IsCompacted (Some 0) (order_cmp opened.0) (order_short_keys opened.0) files opened.1 c.args.level c.args.settings.now in
    let named = (told (codes "CURRENT") (Some (current_text o.manifest))).0 c.in_ok-opened.ensures.named in
    let synced = c.sync_version.ensures.same files (told_still (tells c.args.folder.now) (tells c.open.new.folder) files c.open.ensures.reads.same told) in
    answers_behind step_in (failed c.args.folder.now) (failed c.sync_version.new.folder) (failed c.compact_opened.new.folder) c.compact_opened.result (IsOpened (IsFileIn files)) next next opened
    (later_still (failed c.args.folder.now) (failed c.open.new.folder) (failed c.sync_version.new.folder) c.open.ensures.device.later c.sync_version.ensures.device.later) c.compact_opened.ensures.device.later
    (opened_in (tells c.args.folder.now) files (Ok opened) told c.in_ok-opened.ensures.answer) (λ a h. h)
    (of_opened
    (λ (order : Order) (v : State) (m : ℕ). (fs : Files) → Tells (tells c.sync_version.new.folder) fs → fs (codes "CURRENT") ≡ Some (current_text m)
    → FolderAnswers step_in (failed c.sync_version.new.folder) (failed c.compact_opened.new.folder) c.compact_opened.result (IsCompacted (Some 0) (order_cmp order) (order_short_keys order) fs v c.args.level c.args.settings.now))
    _ _ _ _ _ _ c.in_ok-synced.ensures.synced c.compact_opened.ensures.answer files synced named)

pub returns-clause-left : goal.returns-clause-left
returns-clause-left g c files told =
    let tells = g.F.Folder.tells in
    let calls = g.F.Folder.calls in
    let o = c.in_ok-opened.opened in
    let opened = opened_in (tells c.args.folder.now) files (Ok (o.order, o.version)) told c.in_ok-opened.ensures.answer in
    let named = (told (codes "CURRENT") (Some (current_text o.manifest))).0 c.in_ok-opened.ensures.named in
    let synced = c.sync_version.ensures.same files (told_still (tells c.args.folder.now) (tells c.open.new.folder) files c.open.ensures.reads.same told) in
    synced_left o.order o.version o.manifest files c.args.level c.args.settings.now (calls c.args.folder.now) (calls c.open.new.folder) (calls c.sync_version.new.folder) (calls c.compact_opened.new.folder)
    (tells c.args.folder.now) (tells c.open.new.folder) (tells c.sync_version.new.folder) (tells c.compact_opened.new.folder) c.sync_version.result _ c.compact_opened.result
    opened named
    c.open.ensures.reads.calls c.open.ensures.reads.same c.in_ok-synced.was c.sync_version.ensures.runs
    (of_opened
    (λ (order : Order) (v : State) (m : ℕ). (fs : Files) → Tells (tells c.sync_version.new.folder) fs → fs (codes "CURRENT") ≡ Some (current_text m) → IsOpened (IsFileIn fs) (Ok (order, v))
    → IsVersionLeft (order_view order) v fs c.args.level c.args.settings.now (change_by (calls c.sync_version.new.folder) (calls c.compact_opened.new.folder) (tells c.sync_version.new.folder) (tells c.compact_opened.new.folder))
    c.compact_opened.result)
    _ _ _ _ _ _ c.in_ok-synced.ensures.synced (λ fs tells current is. c.compact_opened.ensures.left fs tells current is (λ none. absurd (is_asked c.args.memory none))) files synced named opened)

pub returns-clause-runs : goal.returns-clause-runs
returns-clause-runs g c =
    let tells = g.F.Folder.tells in
    let calls = g.F.Folder.calls in
    let o = c.in_ok-opened.opened in
    synced_run g.F.Folder c.args.folder.now c.sync_version.new.folder c.compact_opened.new.folder o.order o.version o.manifest c.args.level c.args.settings.now (calls c.open.new.folder) (tells c.open.new.folder) c.sync_version.result _ c.compact_opened.result
    c.in_ok-opened.ensures.answer c.in_ok-opened.ensures.named
    c.open.ensures.reads.calls c.open.ensures.reads.same c.in_ok-synced.was c.sync_version.ensures.runs
    (of_opened
    (λ (order : Order) (v : State) (m : ℕ). IsLevelRun order v c.args.level c.args.settings.now (change_by (calls c.sync_version.new.folder) (calls c.compact_opened.new.folder) (tells c.sync_version.new.folder) (tells c.compact_opened.new.folder))
    c.compact_opened.result)
    _ _ _ _ _ _ c.in_ok-synced.ensures.synced c.compact_opened.ensures.runs)

pub returns-clause-device : goal.returns-clause-device
returns-clause-device g c =
    reports_then c.in_ok-opened.was c.open.ensures.device
    (reports_then c.in_ok-synced.was c.sync_version.ensures.device c.compact_opened.ensures.device)
