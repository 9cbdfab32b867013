use Rattle.std.proofs.Common.{false, Result, subst}
use Rattle.coding.specs.Answers.{EqualOrMemory}
use Rattle.coding.specs.declared.fault.Fault.{Fault}
use Rattle.split.specs.Ranges.{key_range}
use Rattle.merge.specs.CursorsLeft.{is_before, is_passed, EachLosesFirst}
use Rattle.keep.specs.Runs.{Run}
use Rattle.merge.proofs.Bounds.{below_passed}
use Rattle.merge.proofs.LeftEntries.{each_first_weaker, each_loses_only}
use Rattle.keep.proofs.OnAnswers.{on_ok, if_err}
use Rattle.keep.proofs.RangeWalks.{begun_same, begun_passed, all_behind}
use Rattle.keep.proofs.range_merge.merge_lent.Goals as goal

pub returns-in_err-begin-clause-left : goal.returns-in_err-begin-clause-left
returns-in_err-begin-clause-left g c =
    let cmp = g.C.Comparator.cmp in
    let range = key_range c.args.range in
    if_err c.from_residual.result (each_first_weaker (is_before cmp range.lower false) (is_passed cmp range) (below_passed cmp range) c.args.merging.now c.begin.new.merging c.in_err-begin.ensures.left)

pub returns-clause-run : goal.returns-clause-run
returns-clause-run g c =
    let cmp = g.C.Comparator.cmp in
    let range = key_range c.args.range in
    subst (λ (a : Result Run Fault). EqualOrMemory (λ (r : Run). r) c.walk_range.result a) (begun_same cmp g.met.C.Comparator.total c.args.rule.now range c.args.merging.now c.begin.new.merging
    (each_loses_only (is_before cmp range.lower false) c.args.merging.now c.begin.new.merging c.in_ok-begin.ensures.left)) c.walk_range.ensures.run

pub returns-clause-behind : goal.returns-clause-behind
returns-clause-behind g c =
    let cmp = g.C.Comparator.cmp in
    let range = key_range c.args.range in
    let left : EachLosesFirst (is_passed cmp range) c.args.merging.now c.walk_range.new.merging =
    begun_passed cmp g.met.C.Comparator.total range c.args.merging.now c.begin.new.merging c.walk_range.new.merging c.in_ok-begin.ensures.left c.walk_range.ensures.left in
    on_ok c.walk_range.result _ _ (λ none. all_behind cmp g.met.C.Comparator.total range c.args.merging.now c.walk_range.new.merging left none) c.walk_range.ensures.behind

pub returns-clause-left : goal.returns-clause-left
returns-clause-left g c =
    let cmp = g.C.Comparator.cmp in
    let range = key_range c.args.range in
    let left : EachLosesFirst (is_passed cmp range) c.args.merging.now c.walk_range.new.merging =
    begun_passed cmp g.met.C.Comparator.total range c.args.merging.now c.begin.new.merging c.walk_range.new.merging c.in_ok-begin.ensures.left c.walk_range.ensures.left in
    if_err c.walk_range.result left
