use Rattle.std.proofs.Common.{List, length, map, ◌≤◌, subst, arith}
use Rattle.std.proofs.lemmas.List.{take_all, length-map}
use Rattle.table.specs.EncodedEntry.{Entry}
use Rattle.merge.specs.LeastList.{IsMerging}
use Rattle.merge.proofs.least.least_place.Goals as goal

pub returns : goal.returns
returns g c =
    let lists : List (List Entry) = map g.S.Entries.remaining c.args.cursors.now in
    let all : length lists ≤ c.loop-place.place = omega (arith, length-map c.args.cursors.now g.S.Entries.remaining, c.loop-place-test.false) in
    subst (λ (ls : List (List Entry)). IsMerging g.C.Comparator.cmp ls c.loop-place.least) (take_all c.loop-place.place lists all) c.loop-place.invariant
