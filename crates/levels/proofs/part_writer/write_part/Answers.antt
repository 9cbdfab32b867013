use Rattle.std.proofs.Common.{◌≡◌, ◌+◌, ℕ, ◌⊎◌, Some, Err, refl, subst, arith}
use Rattle.folder.specs.ReadsAs.{IsFileIn}
use Rattle.compact.specs.AnswerIn.{answer_in}
use Rattle.folder.specs.OpenAnswer.{IsStopped}
use Rattle.folder.proofs.ReportLemmas.{reports_handed, reports_then}
use Rattle.edit.specs.Answers.{UnlessMemory}
use Rattle.pick.specs.PickedInputs.{picked_in}
use Rattle.store.specs.InputsCompaction.{IsPickedAnswer}
use Rattle.store.specs.PickedOutcome.{IsPickedCompacted}
use Rattle.levels.proofs.PartsAt.{got, part_is}
use Rattle.levels.proofs.PartWritten.{held_none, numbered, part_done, part_refused, part_unnumbered, unnumbered}
use Rattle.levels.proofs.part_writer.write_part.Goals as goal

pub outcome_of_picked-requires-clause-chosen : goal.outcome_of_picked-requires-clause-chosen
outcome_of_picked-requires-clause-chosen g c κs within =
    part_is g.C.Comparator.cmp c.args.task.now.version.now c.args.task.now.parts.now c.args.place c.index-parts-place.result
    (got c.args.task.now.parts.now c.args.place c.index-parts-place.result c.requires.within c.index-parts-place.is) c.requires

pub returns-in_default-clause-written : goal.returns-in_default-clause-written
returns-in_default-clause-written g c =
    let before = c.args.written.now in
    let old = c.args.folder.now in
    let part = c.index-parts-place.result in (
      part,
      got c.args.task.now.parts.now c.args.place part c.requires.within c.index-parts-place.is,
      part_unnumbered g.F.Folder g.C.Comparator.cmp g.C.Comparator.short_keys c.args.task.now.version.now c.args.task.now.settings.now (picked_in part) before before old old old _ refl
          (unnumbered before.last (let h = c.in_default.ensures in omega (arith, h))) c.of.ensures,
    )

pub returns-in_err-outcome-clause-written : goal.returns-in_err-outcome-clause-written
returns-in_err-outcome-clause-written g c =
    let before = c.args.written.now in
    let old = c.args.folder.now in
    let new = c.outcome_of_picked.new.folder in
    let cmp = g.C.Comparator.cmp in
    let keys = g.C.Comparator.short_keys in
    let v = c.args.task.now.version.now in
    let s = c.args.task.now.settings.now in
    let part = c.index-parts-place.result in
    let p = picked_in part in
    let f = g.F.Folder in
    let e = c.in_err-outcome.field-0.0 in
    let first : c.in-Some.first ≡ before.last + 1 = c.in-Some.ensures.1 in (
      part,
      got c.args.task.now.parts.now c.args.place part c.requires.within c.index-parts-place.is,
      part_refused f cmp keys v s p before before old new new c.from_residual.result e (numbered before.last c.in-Some.first first c.in-Some.ensures.0) c.from_residual.ensures.1 c.outcome_of_picked.ensures.reads
          (λ files told. subst (λ (n : ℕ). UnlessMemory e (IsStopped (f.failed old) (f.failed new) e ⊎ IsPickedAnswer (Some n) cmp keys files v s p (Err e))) first
          (c.in_err-outcome.ensures.answer files told (held_none cmp (IsFileIn files) c.none-none.result c.none-none.ensures))),
    )

pub returns-in_err-outcome-clause-device : goal.returns-in_err-outcome-clause-device
returns-in_err-outcome-clause-device g c = reports_handed c.from_residual.result c.in_err-outcome.was c.outcome_of_picked.ensures.device c.from_residual.ensures.1

pub returns-clause-written : goal.returns-clause-written
returns-clause-written g c =
    let before = c.args.written.now in
    let old = c.args.folder.now in
    let mid = c.outcome_of_picked.new.folder in
    let cmp = g.C.Comparator.cmp in
    let keys = g.C.Comparator.short_keys in
    let v = c.args.task.now.version.now in
    let s = c.args.task.now.settings.now in
    let part = c.index-parts-place.result in
    let p = picked_in part in
    let f = g.F.Folder in
    let a = answer_in c.in_ok-outcome.outcome in
    let first : c.in-Some.first ≡ before.last + 1 = c.in-Some.ensures.1 in (
      part,
      got c.args.task.now.parts.now c.args.place part c.requires.within c.index-parts-place.is,
      part_done f cmp keys v s p before c.write_outcome.new.written old mid c.write_outcome.new.folder c.write_outcome.result a
          (subst (λ (n : ℕ). IsPickedCompacted (Some n) cmp keys (f.tells old) v s p a) first (c.in_ok-outcome.ensures.compacted (held_none cmp (f.tells old) c.none-none.result c.none-none.ensures)))
          c.outcome_of_picked.ensures.pointer c.outcome_of_picked.ensures.reads c.outcome_of_picked.ensures.device.later c.write_outcome.ensures.device.later c.write_outcome.ensures.written,
    )

pub returns-clause-device : goal.returns-clause-device
returns-clause-device g c = reports_then c.in_ok-outcome.was c.outcome_of_picked.ensures.device c.write_outcome.ensures.device
