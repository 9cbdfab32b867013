use Rattle.std.proofs.Common.{refl, false, sym, ◌∙◌}
use Rattle.split.specs.Ranges.{key_range}
use Rattle.merge.specs.CursorsLeft.{is_before}
use Rattle.merge.proofs.LeftEntries.{leaves_next}
use Rattle.merge.proofs.FirstEntries.{first_some, fewer}
use Rattle.merge.proofs.range_start.seek_range.Goals as goal

pub advance-requires : goal.advance-requires
advance-requires g c = λ k. ((refl, tt), first_some (is_before g.C.Comparator.cmp (key_range c.args.range).lower false) (g.S.Entries.remaining c.loop-cursor.cursor) (sym c.starts_before.ensures ∙ c.loop-cursor-test.true))

pub loop-cursor-preserved : goal.loop-cursor-preserved
loop-cursor-preserved g c =
    λ fit. leaves_next (is_before g.C.Comparator.cmp (key_range c.args.range).lower false) (g.S.Entries.remaining c.args.cursor.now) (g.S.Entries.remaining c.loop-cursor.cursor) (g.S.Entries.remaining c.advance.new.self) (c.loop-cursor.invariant fit)
    c.in_ok-advance.ensures.ok (sym c.starts_before.ensures ∙ c.loop-cursor-test.true)

pub loop-cursor-smaller : goal.loop-cursor-smaller
loop-cursor-smaller g c =
    fewer (is_before g.C.Comparator.cmp (key_range c.args.range).lower false) (g.S.Entries.remaining c.loop-cursor.cursor) (g.S.Entries.remaining c.advance.new.self) (sym c.starts_before.ensures ∙ c.loop-cursor-test.true) c.in_ok-advance.ensures.ok

pub returns-clause-begun : goal.returns-clause-begun
returns-clause-begun g c = sym c.starts_before.ensures ∙ c.loop-cursor-test.false
