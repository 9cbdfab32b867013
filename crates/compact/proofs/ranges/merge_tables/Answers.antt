use Rattle.std.proofs.Common.{List, Result, map, ap, subst, ◌∙◌}
use Rattle.ikey.specs.Answers.{EqualOrMemory}
use Rattle.ikey.specs.fault.Fault.{Fault}
use Rattle.table.specs.EncodedEntry.{Entry}
use Rattle.split.specs.Ranges.{KeyRange, key_range}
use Rattle.keep.specs.Marks.{CompactionContext, context_of}
use Rattle.keep.specs.Runs.{Run, range_run}
use Rattle.keep.proofs.RangeWalks.{run_same}
use Rattle.compact.proofs.RangeAnswers.{map_same}
use Rattle.compact.proofs.ranges.merge_tables.Goals as goal

pub returns : goal.returns
returns g c =
    let cmp = g.C.Comparator.cmp in
    let below : CompactionContext = context_of c.args.listed.now c.args.floor c.args.inputs.now in
    let range : KeyRange = key_range c.args.range in
    let cursors : List (List Entry) = c.in_ok-cursors.cursors.items in
    subst (λ (a : Result Run Fault). EqualOrMemory (λ (r : Run). r) c.merge_range.result a)
    (ap (λ (ls : List (List Entry)). range_run cmp below ls range) (map_same cursors)
    ∙ run_same cmp g.met.C.Comparator.total range below (map (λ t. t.now.entries) c.args.tables.now) cursors c.in_ok-cursors.ensures.held)
    c.merge_range.ensures.run
