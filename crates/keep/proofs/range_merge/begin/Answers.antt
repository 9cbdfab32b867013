use Rattle.std.proofs.Common.{refl, false, List, sym, subst, ◌∙◌}
use Rattle.std.specs.Option.{option_map}
use Rattle.reads.specs.EncodedEntry.{Entry}
use Rattle.merge.specs.MergedLists.{merged}
use Rattle.merge.specs.CursorsLeft.{is_before, EachLosesFirst}
use Rattle.merge.proofs.FirstEntries.{first_some, fewer}
use Rattle.keep.proofs.RangeWalks.{begins}
use Rattle.merge.proofs.LeftEntries.{each_first_all}
use Rattle.keep.proofs.range_merge.begin.Goals as goal

pub advance-requires : goal.advance-requires
advance-requires g c = λ k. ((refl, tt), first_some (is_before g.C.Comparator.cmp (option_map (λ limit. limit.now) c.args.lower) false) (merged g.C.Comparator.cmp c.loop-merging.merging) (sym c.starts_before.ensures ∙ c.loop-merging-test.true))

pub loop-merging-preserved : goal.loop-merging-preserved
loop-merging-preserved g c =
    begins g.C.Comparator.cmp g.met.C.Comparator.total (option_map (λ limit. limit.now) c.args.lower) c.args.merging.now c.loop-merging.merging c.advance.new.self c.loop-merging.invariant c.in_ok-advance.ensures.advanced
    c.in_ok-advance.ensures.ok (sym c.starts_before.ensures ∙ c.loop-merging-test.true)

pub loop-merging-smaller : goal.loop-merging-smaller
loop-merging-smaller g c =
    fewer (is_before g.C.Comparator.cmp (option_map (λ limit. limit.now) c.args.lower) false) (merged g.C.Comparator.cmp c.loop-merging.merging) (merged g.C.Comparator.cmp c.advance.new.self) (sym c.starts_before.ensures ∙ c.loop-merging-test.true)
    c.in_ok-advance.ensures.ok

pub returns-in_err-advance-clause-left : goal.returns-in_err-advance-clause-left
returns-in_err-advance-clause-left g c =
    subst (λ (lists : List (List Entry)). EachLosesFirst (is_before g.C.Comparator.cmp (option_map (λ limit. limit.now) c.args.lower) false) c.args.merging.now lists) (sym c.in_err-advance.ensures.unchanged) c.loop-merging.invariant

pub returns-clause-begun : goal.returns-clause-begun
returns-clause-begun g c = sym c.starts_before.ensures ∙ c.loop-merging-test.false

pub loop-merging-init : goal.loop-merging-init
loop-merging-init g c = each_first_all (is_before g.C.Comparator.cmp (option_map (λ limit. limit.now) c.args.lower) false) c.args.merging.now
