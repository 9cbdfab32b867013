use Rattle.std.proofs.Common.{◌≤◌, List, map, length, Result, Ok, sym, ap, subst, ◌∙◌}
use Rattle.std.proofs.lemmas.Result.{err_from_is_err_and}
use Rattle.ikey.specs.fault.Fault.{Fault}
use Rattle.ikey.specs.Answers.{◌>>=◌, EqualOrMemory, FailsOrMemory}
use Rattle.ikey.proofs.Refusals.{FailsOrMemory-from}
use Rattle.table.specs.EncodedEntry.{Entry}
use Rattle.table.specs.TableContents.{Contents}
use Rattle.pick.specs.declared.picked_inputs.InputFile.{InputFile}
use Rattle.compact.specs.Inputs.{inputs_reading}
use Rattle.compact.specs.AnswerIn.{answer_in}
use Rattle.compact.specs.OneThread.{Answer, one_thread}
use Rattle.compact.specs.Request.{RequestView, request_in}
use Rattle.compact.specs.RangeMerges.{by_workers}
use Rattle.compact.specs.SurvivingReads.{LeavesReads}
use Rattle.compact.proofs.Joined.{answer_is, if_answered, inputs_are, refused_input, refused_test}
use Rattle.compact.proofs.compaction.compact.Goals as goal

abbrev read_as : List (List Entry) → Result (List (List Entry)) Fault
read_as inputs = Ok inputs

pub returns-in_err-check_workers : goal.returns-in_err-check_workers
returns-in_err-check_workers g c =
    let r : RequestView = request_in c.args.request.now in
    let thread : Result Answer Fault = one_thread g.C.Comparator.cmp g.C.Comparator.short_keys r in
    let p = err_from_is_err_and c.from_residual.result c.from_residual.ensures.1 in
    record {
      same = rw (p.1, p.2)
          (FailsOrMemory-from c.in_err-check_workers.field-0.0 _
          (ap (λ (t : Result (Unit {0}) Fault). t >>= λ _. thread) (sym c.in_err-check_workers.ensures)));
      leaves_reads = rw (p.1) tt;
    }

pub returns-in_err-check : goal.returns-in_err-check
returns-in_err-check g c =
    let cmp = g.C.Comparator.cmp in
    let r : RequestView = request_in c.args.request.now in
    let p = err_from_is_err_and c.from_residual-in_err-check.result c.from_residual-in_err-check.ensures.1 in
    record {
      same = rw (p.1, p.2)
          (FailsOrMemory-from c.in_err-check.field-0.0 _
          (answer_is c.args.workers (sym c.in_ok-check_workers.ensures) (one_thread cmp g.C.Comparator.short_keys r)
          ∙ refused_test cmp g.C.Comparator.short_keys r c.in_err-check.field-0.0 (sym c.in_err-check.ensures)));
      leaves_reads = rw (p.1) tt;
    }

pub check_inputs-requires-clause-few : goal.check_inputs-requires-clause-few
check_inputs-requires-clause-few g c κs within =
    subst (λ (files : List InputFile). length files ≤ 256) (sym c.deref.ensures.value) (c.passed_law.ensures (request_in c.args.request.now) (sym c.in_ok-check.ensures)).few

pub returns-in_err-tables : goal.returns-in_err-tables
returns-in_err-tables g c =
    let cmp = g.C.Comparator.cmp in
    let r : RequestView = request_in c.args.request.now in
    let e : Fault = c.in_err-tables.field-0.0 in
    let passes = sym c.in_ok-check_workers.ensures in
    let thread : Result Answer Fault = one_thread cmp g.C.Comparator.short_keys r in
    let p = err_from_is_err_and c.from_residual-in_err-tables.result c.from_residual-in_err-tables.ensures.1 in
    record {
      same = rw (p.1, p.2)
          (subst (FailsOrMemory e) (sym (answer_is c.args.workers passes thread))
          (refused_input cmp g.C.Comparator.short_keys r e (sym c.in_ok-check.ensures)
          (subst (FailsOrMemory e) (inputs_are c.args.workers passes (inputs_reading cmp 0 r.picked.files r.tables))
          (subst (λ (files : List InputFile). FailsOrMemory e (by_workers c.args.workers (inputs_reading cmp 0 files r.tables))) c.deref.ensures.value c.in_err-tables.ensures))));
      leaves_reads = rw (p.1) tt;
    }

pub merge_request-requires-clause-read : goal.merge_request-requires-clause-read
merge_request-requires-clause-read g c κs within =
    let cmp = g.C.Comparator.cmp in
    let r : RequestView = request_in c.args.request.now in
    sym (inputs_are c.args.workers (sym c.in_ok-check_workers.ensures) (inputs_reading cmp 0 r.picked.files r.tables))
    ∙ ap (λ (files : List InputFile). by_workers c.args.workers (inputs_reading cmp 0 files r.tables)) (sym c.deref.ensures.value)
    ∙ c.in_ok-tables.ensures ∙ ap (λ (ts : List Contents). read_as (map (λ t. t.entries) ts)) (sym c.deref-2.ensures.value)

pub returns : goal.returns
returns g c =
    let cmp = g.C.Comparator.cmp in
    let r : RequestView = request_in c.args.request.now in
    record {
      same = subst (λ (a : Result Answer Fault). EqualOrMemory answer_in c.written.result a) c.in_ok-merged.ensures.merged c.written.ensures;
      leaves_reads = if_answered answer_in (LeavesReads cmp r) c.written.result c.in_ok-merged.merged c.written.ensures c.in_ok-merged.ensures.leaves_reads;
    }
