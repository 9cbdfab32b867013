use Rattle.std.proofs.Common.{List, [], length, map, ◌<◌, ◌≤◌, sym, ap, subst, ◌∙◌, arith}
use Rattle.std.specs.List.{AllByRecursion}
use Rattle.std.proofs.lemmas.List.{take_all, length-map}
use Rattle.std.proofs.lemmas.Option.{get_or_from_slice_get}
use Rattle.table.specs.EncodedEntry.{Entry}
use Rattle.table.specs.EntriesFrom.{NeverFalls}
use Rattle.merge.specs.Tournament.{first_head}
use Rattle.merge.proofs.Leasts.{at_place}
use Rattle.merge.proofs.Heads.{none_noted, noted_next, all_noted}
use Rattle.merge.proofs.Tournaments.{all_take_next}
use Rattle.merge.proofs.tournament.note_heads.Goals as goal

pub loop-place-init : goal.loop-place-init
loop-place-init g c =
    let lists : List (List Entry) = map g.S.Entries.remaining c.args.cursors.now in
    record { ordered = tt; noted = none_noted g.C.Comparator.head_of lists c.args.heads.now (c.requires ∙ sym (length-map c.args.cursors.now g.S.Entries.remaining)) }

pub loop-place-preserved : goal.loop-place-preserved
loop-place-preserved g c =
    let remaining = g.S.Entries.remaining in
    let head_of = g.C.Comparator.head_of in
    let cursors = c.args.cursors.now in
    let lists : List (List Entry) = map remaining cursors in
    let place = c.loop-place.place in
    let list : List Entry = remaining c.index-cursors-place.result in
    let here = at_place remaining cursors place c.index-cursors-place.result c.loop-place-test.true c.index-cursors-place.is in
    let inner : place < length lists = omega (arith, c.loop-place-test.true, length-map cursors remaining) in
    record {
      ordered = all_take_next (NeverFalls g.C.Comparator.cmp) lists place list c.loop-place.invariant.ordered here c.first_head.ensures.ordered;
      noted = noted_next head_of lists c.loop-place.heads place c.first_head.result c.loop-place.invariant.noted inner
          (c.first_head.ensures.head ∙ ap (first_head head_of) (sym (get_or_from_slice_get lists place list [] here)));
    }

pub returns-clause-heads : goal.returns-clause-heads
returns-clause-heads g c =
    let lists : List (List Entry) = map g.S.Entries.remaining c.args.cursors.now in
    let all : length lists ≤ c.loop-place.place = omega (arith, length-map c.args.cursors.now g.S.Entries.remaining, c.loop-place-test.false) in
    all_noted g.C.Comparator.head_of lists c.loop-place.heads c.loop-place.place c.loop-place.invariant.noted all

pub returns-clause-ordered : goal.returns-clause-ordered
returns-clause-ordered g c =
    let lists : List (List Entry) = map g.S.Entries.remaining c.args.cursors.now in
    let all : length lists ≤ c.loop-place.place = omega (arith, length-map c.args.cursors.now g.S.Entries.remaining, c.loop-place-test.false) in
    subst (AllByRecursion (NeverFalls g.C.Comparator.cmp)) (take_all c.loop-place.place lists all) c.loop-place.invariant.ordered
