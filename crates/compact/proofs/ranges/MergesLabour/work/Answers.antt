use Rattle.std.proofs.Common.{◌≡◌, ◌≤◌, List, Result, Some, map, length, ap, subst, arith}
use Rattle.std.specs.Prelude.{slice_get}
use Rattle.ikey.specs.Answers.{EqualOrMemory}
use Rattle.ikey.specs.fault.Fault.{Fault}
use Rattle.table.specs.EncodedEntry.{Entry}
use Rattle.split.specs.Ranges.{KeyRange, range_at}
use Rattle.keep.specs.Marks.{CompactionContext, context_of}
use Rattle.keep.specs.Runs.{Run, range_run}
use Rattle.keep.proofs.ComposedRanges.{ranges_compose_law}
use Rattle.board.proofs.CollectedAnswers.{work_gives, work_refuses}
use Rattle.compact.specs.JobAnswers.{RangeMerge, range_answers}
use Rattle.compact.proofs.RangeAnswers.{range_answer_at}
use Rattle.compact.proofs.ranges.MergesLabour.work.Goals as goal

pub returns-clause-ok : goal.returns-clause-ok
returns-clause-ok g c =
    let cmp = g.C.Comparator.cmp in
    let s = c.self.inside in
    let below : CompactionContext = context_of s.listed.now s.floor s.inputs.now in
    let tables : List (List Entry) = map (λ t. t.now.entries) s.tables.now in
    let answer : Result Run Fault = range_run cmp below tables (range_at s.split.now c.args.job) in
    let within : c.args.job ≤ length s.split.now = omega (arith, c.requires, ap (λ (m : RangeMerge). length m.boundaries) c.self.view_is) in
    let at = subst (λ (m : RangeMerge). slice_get (range_answers cmp m.below m.boundaries m.inputs) c.args.job ≡ Some answer) c.self.view_is
    (range_answer_at cmp below tables s.split.now c.args.job (ranges_compose_law cmp g.met.C.Comparator.total) within) in
    work_gives (λ (r : Run). r) _ c.args.job answer at c.merge_tables.result
    (subst (λ (range : KeyRange). EqualOrMemory (λ (r : Run). r) c.merge_tables.result (range_run cmp below tables range)) c.range-range.ensures.bounds c.merge_tables.ensures)

pub returns-clause-err : goal.returns-clause-err
returns-clause-err g c =
    let cmp = g.C.Comparator.cmp in
    let s = c.self.inside in
    let below : CompactionContext = context_of s.listed.now s.floor s.inputs.now in
    let tables : List (List Entry) = map (λ t. t.now.entries) s.tables.now in
    let answer : Result Run Fault = range_run cmp below tables (range_at s.split.now c.args.job) in
    let within : c.args.job ≤ length s.split.now = omega (arith, c.requires, ap (λ (m : RangeMerge). length m.boundaries) c.self.view_is) in
    let at = subst (λ (m : RangeMerge). slice_get (range_answers cmp m.below m.boundaries m.inputs) c.args.job ≡ Some answer) c.self.view_is
    (range_answer_at cmp below tables s.split.now c.args.job (ranges_compose_law cmp g.met.C.Comparator.total) within) in
    work_refuses (λ (r : Run). r) _ c.args.job answer at c.merge_tables.result
    (subst (λ (range : KeyRange). EqualOrMemory (λ (r : Run). r) c.merge_tables.result (range_run cmp below tables range)) c.range-range.ensures.bounds c.merge_tables.ensures)
