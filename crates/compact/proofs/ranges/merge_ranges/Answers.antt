use Rattle.std.proofs.Common.{◌≡◌, Bor, List, Result, Err, Ok, map, length, refl, sym, ap, subst, ◌∙◌}
use mathlib.Core.List.{not-mem-nil}
use Rattle.std.proofs.lemmas.Result.{err_from_is_err_and}
use Rattle.ikey.specs.Answers.{FailsOrMemory}
use Rattle.ikey.specs.fault.Fault.{Fault}
use Rattle.table.specs.EncodedEntry.{Entry}
use Rattle.table.specs.TableContents.{Contents}
use Rattle.keep.specs.Marks.{CompactionContext, context_of}
use Rattle.keep.specs.Runs.{Run}
use Rattle.board.specs.RunAnswer.{fault_of_run}
use Rattle.compact.specs.RangeMerges.{by_workers, runs_reading}
use Rattle.compact.specs.JobAnswers.{range_answers}
use Rattle.compact.proofs.WorkerAnswers.{run_gives, run_fails}
use Rattle.compact.proofs.RangeAnswers.{ranges_collected, range_answers_length, map_same}
use Rattle.compact.proofs.ranges.merge_ranges.Goals as goal

abbrev run_list : List Run → Result (List Run) Fault
run_list runs = Ok runs

pub returns-in_err-run : goal.returns-in_err-run
returns-in_err-run g c =
    let cmp = g.C.Comparator.cmp in
    let below : CompactionContext = context_of c.args.listed.now c.args.floor c.args.inputs.now in
    let tables : List (List Entry) = map (λ t. t.now.entries) c.deref.result.now in
    let same : tables ≡ map (λ t. t.entries) c.args.tables.now = ap (map (λ (t : Bor Contents). t.now.entries)) c.deref.ensures.value ∙ c.in_ok-tables.ensures.tables in
    let p = err_from_is_err_and c.from_residual-in_err-run.result c.from_residual-in_err-run.ensures.1 in
    let e = c.in_err-run.ensures in
    let why = c.in_err-run.field-0.0 in
    rw (p.1, p.2) (subst (λ (ls : List (List Entry)). FailsOrMemory (fault_of_run why) (by_workers c.args.workers (runs_reading cmp below c.args.split.now ls))) same
    (subst (λ (a : Result (List Run) Fault). FailsOrMemory (fault_of_run why) (by_workers c.args.workers a))
    (ranges_collected cmp below tables c.args.split.now c.len.ensures.split c.ranges_compose.ensures)
    (run_fails (λ (r : Run). r) (range_answers cmp below c.args.split.now tables) c.len.result c.args.workers (Err why) e.workers why refl e.refused)))

pub returns : goal.returns
returns g c =
    let cmp = g.C.Comparator.cmp in
    let below : CompactionContext = context_of c.args.listed.now c.args.floor c.args.inputs.now in
    let tables : List (List Entry) = map (λ t. t.now.entries) c.deref.result.now in
    let same : tables ≡ map (λ t. t.entries) c.args.tables.now = ap (map (λ (t : Bor Contents). t.now.entries)) c.deref.ensures.value ∙ c.in_ok-tables.ensures.tables in
    let answers : List (Result Run Fault) = range_answers cmp below c.args.split.now tables in
    let all : c.len.result ≡ length answers = c.len.ensures.number ∙ range_answers_length cmp below c.args.split.now tables in
    ap (λ (ls : List (List Entry)). by_workers c.args.workers (runs_reading cmp below c.args.split.now ls)) (sym same)
    ∙ ap (λ (a : Result (List Run) Fault). by_workers c.args.workers a) (sym (ranges_collected cmp below tables c.args.split.now c.len.ensures.split c.ranges_compose.ensures))
    ∙ run_gives (λ (r : Run). r) answers c.len.result c.args.workers _ c.in_ok-run.ensures.workers c.in_ok-run.field-0.items c.in_ok-run.field-0 refl all c.in_ok-run.ensures.ok
    ∙ ap run_list (map_same c.in_ok-run.field-0.items)

-- no lifetime is in what lives for ever
pub run-requires-lives-L-Labour-2 : goal.run-requires-lives-L-Labour-2
run-requires-lives-L-Labour-2 g c κs within = λ a named. absurd (not-mem-nil (c.type_bounds.static-C a named))
