use Rattle.std.proofs.Common.{refl, ◌≡◌, true, List, ◌∷◌, drop, Ok, Err, sym, ap, subst, ◌∙◌}
use Rattle.std.proofs.lemmas.Result.{err_from_is_err_and}
use Rattle.coding.proofs.Refusals.{unless_from}
use Rattle.reads.specs.EncodedEntry.{Entry}
use Rattle.merge.specs.MergedLists.{merged}
use Rattle.split.specs.Ranges.{key_range}
use Rattle.keep.specs.WalkedRange.{WalkedRange}
use Rattle.merge.specs.CursorsLeft.{is_before, is_passed, EachLosesFirst}
use Rattle.merge.proofs.FirstEntries.{first_some, fewer, head_is}
use Rattle.keep.proofs.RangeWalks.{IsWalking, walking_first, walking_passed, walking_next, walking_repeats, walking_ends, walking_behind}
use Rattle.keep.proofs.range_merge.walk_range.Goals as goal

pub loop-merging-init : goal.loop-merging-init
loop-merging-init g c =
    subst (λ (w : WalkedRange). IsWalking g.C.Comparator.cmp c.args.rule.now (key_range c.args.range) c.args.merging.now c.args.merging.now w) (sym c.new-walk.ensures)
    (walking_first g.C.Comparator.cmp g.met.C.Comparator.total g.met.C.Comparator.exact c.args.rule.now (key_range c.args.range) c.args.merging.now c.requires.begun)

pub key-requires : goal.key-requires
key-requires g c = λ k. ((refl, tt), first_some (is_before g.C.Comparator.cmp (key_range c.args.range).upper true) (merged g.C.Comparator.cmp c.loop-merging.merging) (sym c.starts_before.ensures ∙ c.loop-merging-test.true))

pub value-requires : goal.value-requires
value-requires g c = λ k. ((refl, tt), first_some (is_before g.C.Comparator.cmp (key_range c.args.range).upper true) (merged g.C.Comparator.cmp c.loop-merging.merging) (sym c.starts_before.ensures ∙ c.loop-merging-test.true))

pub advance-requires : goal.advance-requires
advance-requires g c = λ k. ((refl, tt), first_some (is_before g.C.Comparator.cmp (key_range c.args.range).upper true) (merged g.C.Comparator.cmp c.loop-merging.merging) (sym c.starts_before.ensures ∙ c.loop-merging-test.true))

pub step-requires-clause-passed : goal.step-requires-clause-passed
step-requires-clause-passed g c =
    let cmp = g.C.Comparator.cmp in
    let e : Entry = record { key = c.key.result.bytes.now; value = c.value.result.now } in
    let head : merged cmp c.loop-merging.merging ≡ e ∷ drop 1 (merged cmp c.loop-merging.merging) = head_is (merged cmp c.loop-merging.merging) c.key.result.bytes.now c.value.result.now c.key.ensures c.value.ensures in
    walking_passed cmp g.met.C.Comparator.total c.args.rule.now (key_range c.args.range) c.args.merging.now c.loop-merging.merging c.loop-merging.walk e c.loop-merging.invariant (sym c.starts_before.ensures ∙ c.loop-merging-test.true) head

pub loop-merging-preserved : goal.loop-merging-preserved
loop-merging-preserved g c =
    let cmp = g.C.Comparator.cmp in
    let e : Entry = record { key = c.key.result.bytes.now; value = c.value.result.now } in
    let head : merged cmp c.loop-merging.merging ≡ e ∷ drop 1 (merged cmp c.loop-merging.merging) = head_is (merged cmp c.loop-merging.merging) c.key.result.bytes.now c.value.result.now c.key.ensures c.value.ensures in
    subst (λ (w : WalkedRange). IsWalking cmp c.args.rule.now (key_range c.args.range) c.args.merging.now c.advance.new.self w) (sym c.in_ok-step.ensures.new)
    (walking_next cmp g.met.C.Comparator.total c.args.rule.now (key_range c.args.range) c.args.merging.now c.loop-merging.merging c.advance.new.self c.loop-merging.walk e c.loop-merging.invariant (sym c.starts_before.ensures ∙ c.loop-merging-test.true) head
    c.in_ok-step.ensures.ok c.in_ok-advance.ensures.advanced c.in_ok-advance.ensures.ok)

pub loop-merging-smaller : goal.loop-merging-smaller
loop-merging-smaller g c =
    fewer (is_before g.C.Comparator.cmp (key_range c.args.range).upper true) (merged g.C.Comparator.cmp c.loop-merging.merging) (merged g.C.Comparator.cmp c.advance.new.self) (sym c.starts_before.ensures ∙ c.loop-merging-test.true) c.in_ok-advance.ensures.ok

pub returns-in_err-step-clause-run : goal.returns-in_err-step-clause-run
returns-in_err-step-clause-run g c =
    let cmp = g.C.Comparator.cmp in
    let e : Entry = record { key = c.key.result.bytes.now; value = c.value.result.now } in
    let head : merged cmp c.loop-merging.merging ≡ e ∷ drop 1 (merged cmp c.loop-merging.merging) = head_is (merged cmp c.loop-merging.merging) c.key.result.bytes.now c.value.result.now c.key.ensures c.value.ensures in
    let p = err_from_is_err_and c.from_residual.result c.from_residual.ensures.1 in
    rw (p.1, p.2)
    (unless_from c.in_err-step.field-0.0 _ _
    (λ both. walking_repeats cmp g.met.C.Comparator.total c.args.rule.now (key_range c.args.range) c.args.merging.now c.loop-merging.merging c.loop-merging.walk e c.loop-merging.invariant (sym c.starts_before.ensures ∙ c.loop-merging-test.true) head both.1
    ∙ ap Err (sym both.0)) c.in_err-step.ensures.refused)

pub returns-in_err-step-clause-left : goal.returns-in_err-step-clause-left
returns-in_err-step-clause-left g c = c.loop-merging.invariant.left

pub returns-in_err-advance-clause-left : goal.returns-in_err-advance-clause-left
returns-in_err-advance-clause-left g c =
    subst (λ (lists : List (List Entry)). EachLosesFirst (is_passed g.C.Comparator.cmp (key_range c.args.range)) c.args.merging.now lists) (sym c.in_err-advance.ensures.unchanged) c.loop-merging.invariant.left

pub returns-clause-run : goal.returns-clause-run
returns-clause-run g c =
    walking_ends g.C.Comparator.cmp g.met.C.Comparator.total c.args.rule.now (key_range c.args.range) c.args.merging.now c.loop-merging.merging c.loop-merging.walk c.loop-merging.invariant (sym c.starts_before.ensures ∙ c.loop-merging-test.false)
    ∙ ap (λ (w : WalkedRange). Ok w.run) (sym c.walk-2.view_is)

pub returns-clause-left : goal.returns-clause-left
returns-clause-left g c = c.loop-merging.invariant.left

pub returns-clause-behind : goal.returns-clause-behind
returns-clause-behind g c =
    walking_behind g.C.Comparator.cmp g.met.C.Comparator.total c.args.rule.now (key_range c.args.range) c.args.merging.now c.loop-merging.merging c.loop-merging.walk c.loop-merging.invariant (sym c.starts_before.ensures ∙ c.loop-merging-test.false)
