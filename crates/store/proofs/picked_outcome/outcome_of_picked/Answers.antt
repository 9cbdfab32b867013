use Rattle.std.proofs.Common.{Result, Ok, arith}
use Rattle.folder.specs.fault.Fault.{Fault}
use Rattle.folder.specs.LoadedTables.{IsLoaded}
use Rattle.folder.specs.ReadsAs.{IsFileIn}
use Rattle.folder.proofs.OpeningLemmas.{hands_on}
use Rattle.folder.proofs.ReportLemmas.{reports_after, reports_handed}
use Rattle.pick.specs.PickedInputs.{PickedInputs, picked_in}
use Rattle.checks.specs.HeldBytes.{held_bytes}
use Rattle.checks.specs.HeldTables.{IsCheckedAnswer}
use Rattle.compact.specs.AnswerIn.{answer_in}
use Rattle.compact.specs.OneThread.{Answer}
use Rattle.store.specs.InputsCompaction.{IsPickedAnswer, IsReadAnswer, input_numbers}
use Rattle.store.proofs.Flow.{first_passed}
use Rattle.store.proofs.HeldInputs.{checked_loaded, checked_refused}
use Rattle.store.proofs.NoDevice.{read_other}
use Rattle.store.proofs.PickedParts.{held_answers, never_answered, picked_compacted}
use Rattle.store.proofs.picked_outcome.outcome_of_picked.Goals as goal

pub held_inputs-requires-clause-chosen : goal.held_inputs-requires-clause-chosen
held_inputs-requires-clause-chosen g c κs within = c.requires.chosen

pub returns-in_err-tables-clause-answer : goal.returns-in_err-tables-clause-answer
returns-in_err-tables-clause-answer g c files told are =
    let cmp = g.C.Comparator.cmp in
    let keys = g.C.Comparator.short_keys in
    let v = c.args.version.now in
    let s = c.args.asked.now.settings in
    let failed = g.F.Folder.failed in
    let e = c.in_err-tables.field-0.0 in
    let p = picked_in c.args.picked.now in
    hands_on (λ o. (p, answer_in o)) (failed c.args.folder.now) (failed c.args.folder.now) (failed c.held_inputs.new.folder) c.from_residual.result e (IsCheckedAnswer cmp files (input_numbers p.files))
    (IsPickedAnswer c.args.asked.now.first cmp keys files v s p)
    c.from_residual.ensures.1 (omega arith) c.held_inputs.ensures.device.later (c.in_err-tables.ensures.answer files told are)
    (λ h. checked_refused cmp c.args.asked.now.first keys files v s p e h)

pub returns-in_err-tables-clause-device : goal.returns-in_err-tables-clause-device
returns-in_err-tables-clause-device g c = reports_handed c.from_residual.result c.in_err-tables.was c.held_inputs.ensures.device c.from_residual.ensures.1

pub returns-clause-answer : goal.returns-clause-answer
returns-clause-answer g c files told are =
    let cmp = g.C.Comparator.cmp in
    let keys = g.C.Comparator.short_keys in
    let v = c.args.version.now in
    let s = c.args.asked.now.settings in
    let failed = g.F.Folder.failed in
    let p = picked_in c.args.picked.now in
    let tables = c.in_ok-tables.tables in
    let loaded : IsLoaded (IsFileIn files) (input_numbers p.files) (Ok (held_bytes tables)) = checked_loaded cmp files (input_numbers p.files) tables (c.in_ok-tables.ensures.answer files told are) in
    held_answers (λ o. (p, answer_in o)) (failed c.args.folder.now) (failed c.held_inputs.new.folder) c.compact_held.result (IsReadAnswer c.args.asked.now.first cmp keys v s p (held_bytes tables)) (IsPickedAnswer c.args.asked.now.first cmp keys files v s p)
    (λ (a : Result (PickedInputs × Answer) Fault) h. first_passed (IsLoaded (IsFileIn files) (input_numbers p.files)) (IsReadAnswer c.args.asked.now.first cmp keys v s p) (held_bytes tables) a loaded h)
    c.compact_held.ensures.answer

pub returns-clause-compacted : goal.returns-clause-compacted
returns-clause-compacted g c are =
    let p = picked_in c.args.picked.now in
    picked_compacted c.args.asked.now.first g.C.Comparator.cmp g.C.Comparator.short_keys (g.F.Folder.tells c.args.folder.now) c.args.version.now c.args.asked.now.settings p (held_bytes c.in_ok-tables.tables) (c.in_ok-tables.ensures.read are)
    c.compact_held.result c.compact_held.ensures.answer c.compact_held.ensures.outcome

pub returns-clause-device : goal.returns-clause-device
returns-clause-device g c =
    let failed = g.F.Folder.failed in
    let cmp = g.C.Comparator.cmp in
    let keys = g.C.Comparator.short_keys in
    let v = c.args.version.now in
    let s = c.args.asked.now.settings in
    let p = picked_in c.args.picked.now in
    let loaded = held_bytes c.in_ok-tables.tables in
    reports_after c.compact_held.result c.in_ok-tables.was c.held_inputs.ensures.device
    (never_answered (failed c.args.folder.now) (failed c.held_inputs.new.folder) (λ o. (p, answer_in o)) c.compact_held.result (IsReadAnswer c.args.asked.now.first cmp keys v s p loaded) (λ e. read_other c.args.asked.now.first cmp keys v p s loaded e) c.compact_held.ensures.answer)
