use Rattle.std.proofs.Common.{List, get_or, map, set, ◌≡◌, Some, sym, ap, subst, ◌∙◌, add-one, arith}
use Rattle.std.specs.Prelude.{slice_get}
use Rattle.std.proofs.lemmas.List.{map-set}
use Rattle.table.specs.EncodedEntry.{Entry}
use Rattle.merge.specs.Seeks.{EachLeavesFrom}
use Rattle.merge.proofs.Leasts.{at_place}
use Rattle.merge.proofs.Refused.{on_err}
use Rattle.merge.proofs.Seeks.{sought, sought_next, sought_refused}
use Rattle.merge.proofs.merging_cursor.seek_all.Goals as goal

pub returns-in_err-seek-clause-err : goal.returns-in_err-seek-clause-err
returns-in_err-seek-clause-err g c =
    let cmp = g.C.Comparator.cmp in
    let target = c.args.target.bytes.now in
    let place = c.loop-cursor.cursor-index in
    let lists : List (List Entry) = map g.S.Entries.remaining c.args.cursors.now in
    let list : List Entry = g.S.Entries.remaining (get_or c.loop-cursor.cursors place c.cursor-item.result) in
    let left : List Entry = g.S.Entries.remaining c.seek.new.self in
    let here : slice_get (sought cmp target place lists) place ≡ Some list =
    ap (λ (ls : List (List Entry)). slice_get ls place) (sym c.loop-cursor.invariant) ∙ at_place g.S.Entries.remaining c.loop-cursor.cursors place c.cursor-item.result (omega (arith, c.loop-cursor.auto.cursors, c.loop-cursor-test.true)) c.cursor-item.is
    ∙ ap (λ x. Some (g.S.Entries.remaining x)) c.cursor-item.is in
    on_err c.from_residual.result
    (subst (EachLeavesFrom cmp target lists) (sym (map-set g.S.Entries.remaining c.loop-cursor.cursors place c.seek.new.self ∙ ap (λ (ls : List (List Entry)). set ls place left) c.loop-cursor.invariant))
    (sought_refused cmp target lists place list left here c.in_err-seek.ensures.err))

pub loop-cursor-preserved : goal.loop-cursor-preserved
loop-cursor-preserved g c =
    let cmp = g.C.Comparator.cmp in
    let target = c.args.target.bytes.now in
    let place = c.loop-cursor.cursor-index in
    let lists : List (List Entry) = map g.S.Entries.remaining c.args.cursors.now in
    let list : List Entry = g.S.Entries.remaining (get_or c.loop-cursor.cursors place c.cursor-item.result) in
    let here : slice_get (sought cmp target place lists) place ≡ Some list =
    ap (λ (ls : List (List Entry)). slice_get ls place) (sym c.loop-cursor.invariant) ∙ at_place g.S.Entries.remaining c.loop-cursor.cursors place c.cursor-item.result (omega (arith, c.loop-cursor.auto.cursors, c.loop-cursor-test.true)) c.cursor-item.is
    ∙ ap (λ x. Some (g.S.Entries.remaining x)) c.cursor-item.is in
    map-set g.S.Entries.remaining c.loop-cursor.cursors place c.seek.new.self
    ∙ ap (λ (ls : List (List Entry)). set ls place (g.S.Entries.remaining c.seek.new.self)) c.loop-cursor.invariant
    ∙ ap (set (sought cmp target place lists) place) c.in_ok-seek.ensures.ok
    ∙ sought_next cmp target lists place list here
    ∙ ap (λ n. sought cmp target n lists) (sym (add-one place))
