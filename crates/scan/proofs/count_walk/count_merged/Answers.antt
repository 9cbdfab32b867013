use Rattle.std.proofs.Common.{◌≡◌, ◌<◌, ℕ, true, List, [], ◌∷◌, drop, length, Some, refl, sym, ap, ◌∙◌, arith}
use Rattle.block.specs.EncodedEntry.{Entry}
use Rattle.merge.specs.LeastList.{IsMerging}
use Rattle.merge.specs.MergedLists.{merged}
use Rattle.merge.proofs.Leasts.{place_within, some_where_least}
use Rattle.merge.proofs.Merges.{merged_first}
use Rattle.reads.specs.Ranges.{key_range}
use Rattle.merge.specs.FirstEntry.{first_is}
use Rattle.merge.specs.CursorsLeft.{is_before}
use Rattle.scan.proofs.WalkCounts.{after_number, count_begins, count_ends, count_more, count_stops, new_number}
use Rattle.scan.proofs.count_walk.count_merged.Goals as goal

fewer : (es fs : List Entry) → 0 < length es → fs ≡ drop 1 es → length fs < length es
fewer [] fs h k = absurd (omega arith)
fewer (e ∷ es) fs h k = let n : length fs ≡ length es = ap length k in omega (arith, n)

pub loop-place-init : goal.loop-place-init
loop-place-init g c =
    let met = g.met.C.Comparator in
    record {
      number = c.requires;
      same = refl;
      counted = count_begins g.C.Comparator.cmp met.total met.exact (key_range c.args.range) c.args.last c.args.merging.now c.args.amounts.now c.none-decided.result c.none-decided.ensures;
    }

pub returns-then-not-is_within-clause-counted : goal.returns-then-not-is_within-clause-counted
returns-then-not-is_within-clause-counted g c =
    let met = g.met.C.Comparator in
    let now = c.loop-place in
    count_stops g.C.Comparator.cmp met.total met.exact (key_range c.args.range) c.args.last c.args.merging.now c.args.amounts.now now.merging now.decided now.amounts now.invariant.number now.invariant.same (sym c.requires) (sym c.starts_before-is_within.ensures ∙ c.if-not-is_within.true) now.invariant.counted

pub count_next-requires : goal.count_next-requires
count_next-requires g c =
    let low = place_within g.C.Comparator.cmp c.loop-place.merging c.in-Some.place c.in-Some.ensures in
    λ k. ((refl, tt), (some_where_least g.C.Comparator.cmp g.met.C.Comparator.total c.loop-place.merging c.in-Some.place c.in-Some.ensures, omega (arith, low, c.loop-place.invariant.number)))

pub advance-requires : goal.advance-requires
advance-requires g c κs = ((refl, tt), some_where_least g.C.Comparator.cmp g.met.C.Comparator.total c.loop-place.merging c.in-Some.place c.in-Some.ensures)

pub loop-place-smaller : goal.loop-place-smaller
loop-place-smaller g c =
    fewer (merged g.C.Comparator.cmp c.loop-place.merging) (merged g.C.Comparator.cmp c.advance.new.self) (some_where_least g.C.Comparator.cmp g.met.C.Comparator.total c.loop-place.merging c.in-Some.place c.in-Some.ensures) c.in_ok-advance.ensures.ok

pub loop-place-preserved : goal.loop-place-preserved
loop-place-preserved g c =
    let cmp = g.C.Comparator.cmp in
    let total = g.met.C.Comparator.total in
    let exact = g.met.C.Comparator.exact in
    let range = key_range c.args.range in
    let now = c.loop-place in
    let place : ℕ = c.in-Some.place in
    let m : IsMerging cmp now.merging (Some place) = c.in-Some.ensures in
    let whole = merged_first cmp total now.merging place m.ordered m.least in
    let up : is_before cmp range.upper true m.least.first ≡ true = sym (ap (first_is (is_before cmp range.upper true)) whole) ∙ sym c.starts_before-is_within.ensures ∙ c.if-not-is_within.false in
    let amounts = c.in_ok-count_next.ensures.amounts m.least.first _ whole in
    let decided = c.in_ok-count_next.ensures.decided m.least.first _ whole in
    let advanced = c.in_ok-advance.ensures.advanced in
    record {
      number = after_number cmp total exact range c.args.last c.args.merging.now c.args.amounts.now now.merging c.advance.new.self place m advanced now.decided now.amounts now.invariant.number c.count_next.new.amounts amounts;
      same = new_number cmp total exact range c.args.last c.args.merging.now c.args.amounts.now now.merging c.advance.new.self place m advanced now.decided now.amounts now.invariant.number ∙ now.invariant.same;
      counted = count_more cmp total exact range c.args.last c.args.merging.now c.args.amounts.now now.merging c.advance.new.self place m advanced now.decided now.amounts now.invariant.number c.count_next.new.decided c.count_next.new.amounts up amounts decided now.invariant.counted;
    }

pub returns-clause-counted : goal.returns-clause-counted
returns-clause-counted g c =
    let met = g.met.C.Comparator in
    let now = c.loop-place in
    count_ends g.C.Comparator.cmp met.total met.exact (key_range c.args.range) c.args.last c.args.merging.now c.args.amounts.now now.merging now.decided now.amounts now.invariant.number now.invariant.same (sym c.requires) c.in_default.ensures now.invariant.counted
