use Rattle.std.proofs.Common.{refl, false, sym, ◌∙◌}
use Rattle.merge.specs.MergedLists.{merged}
use Rattle.reads.specs.Ranges.{key_range}
use Rattle.merge.specs.CursorsLeft.{is_before}
use Rattle.merge.proofs.FirstEntries.{fewer, first_some}
use Rattle.scan.proofs.MergedRows.{skipped}
use Rattle.scan.proofs.merge_walk.skip_before.Goals as goal

pub advance-requires : goal.advance-requires
advance-requires g c = λ k. ((refl, tt), first_some (is_before g.C.Comparator.cmp (key_range c.args.range).lower false) (merged g.C.Comparator.cmp c.loop-merging.merging) (sym c.starts_before.ensures ∙ c.loop-merging-test.true))

pub loop-merging-preserved : goal.loop-merging-preserved
loop-merging-preserved g c =
    skipped g.C.Comparator.cmp g.met.C.Comparator.total (key_range c.args.range) (merged g.C.Comparator.cmp c.loop-merging.merging) (merged g.C.Comparator.cmp c.advance.new.self) (sym c.starts_before.ensures ∙ c.loop-merging-test.true) c.in_ok-advance.ensures.ok
    ∙ c.loop-merging.invariant

pub loop-merging-smaller : goal.loop-merging-smaller
loop-merging-smaller g c =
    fewer (is_before g.C.Comparator.cmp (key_range c.args.range).lower false) (merged g.C.Comparator.cmp c.loop-merging.merging) (merged g.C.Comparator.cmp c.advance.new.self) (sym c.starts_before.ensures ∙ c.loop-merging-test.true) c.in_ok-advance.ensures.ok

pub returns-clause-begun : goal.returns-clause-begun
returns-clause-begun g c = sym c.starts_before.ensures ∙ c.loop-merging-test.false
