use Rattle.std.proofs.Common.{List, ℕ, refl, length-set, length, map, set, drop, Some, ◌<◌, ◌≡◌, ap, sym, subst, ◌∙◌, arith}
use Rattle.std.proofs.lemmas.List.{length-map, map-set, with_items_is}
use Rattle.std.proofs.lemmas.Result.{on_err_weaker}
use Rattle.table.specs.EncodedEntry.{Entry}
use Rattle.merge.specs.MergedLists.{merged}
use Rattle.merge.specs.LeastList.{IsAdvanced, IsMerging}
use Rattle.merge.specs.Tournament.{IsTournament, AreHeads, IsHeaded}
use Rattle.merge.proofs.Heads.{cursors_on}
use Rattle.merge.proofs.Leasts.{at_place, place_within, map_set_same, advanced, merged_behind}
use Rattle.merge.proofs.Refused.{on_err}
use Rattle.merge.proofs.Tournaments.{bracket_on, path_on, tournament_on}
use Rattle.merge.proofs.merging_cursor.MergingCursor.advance.Goals as goal

pub invariant_of-self : goal.invariant_of-self
invariant_of-self g c =
    let lists : List (List Entry) = map g.S.Entries.remaining c.self.inside.cursors.items in
    let m : IsMerging g.C.Comparator.cmp lists (Some c.first_place-place.result) = subst (λ cursors. IsMerging g.C.Comparator.cmp (map g.S.Entries.remaining cursors) (Some c.first_place-place.result)) c.as_slice-cursors.ensures.value c.first_place-place.ensures in
    let within : c.first_place-place.result < length c.self.inside.cursors.items = omega (arith, place_within g.C.Comparator.cmp lists c.first_place-place.result m, length-map c.self.inside.cursors.items g.S.Entries.remaining) in
    let here = at_place g.S.Entries.remaining c.self.inside.cursors.items c.first_place-place.result c.index_mut.result.now within c.index_mut.ensures.value in
    subst (λ (ls : List (List Entry)). IsHeaded g.C.Comparator.cmp g.C.Comparator.head_of ls c.self.inside.winners.items c.self.inside.heads.items)
    (sym (map_set_same g.S.Entries.remaining c.self.inside.cursors.items c.first_place-place.result c.index_mut.result.now c.advance_cursor.new.cursor here c.in_err-head.ensures.err)) c.self.invariant

pub returns-in_err-head-clause-unchanged : goal.returns-in_err-head-clause-unchanged
returns-in_err-head-clause-unchanged g c =
    let lists : List (List Entry) = map g.S.Entries.remaining c.self.inside.cursors.items in
    let m : IsMerging g.C.Comparator.cmp lists (Some c.first_place-place.result) = subst (λ cursors. IsMerging g.C.Comparator.cmp (map g.S.Entries.remaining cursors) (Some c.first_place-place.result)) c.as_slice-cursors.ensures.value c.first_place-place.ensures in
    let within : c.first_place-place.result < length c.self.inside.cursors.items = omega (arith, place_within g.C.Comparator.cmp lists c.first_place-place.result m, length-map c.self.inside.cursors.items g.S.Entries.remaining) in
    let here = at_place g.S.Entries.remaining c.self.inside.cursors.items c.first_place-place.result c.index_mut.result.now within c.index_mut.ensures.value in
    on_err c.from_residual.result
    (map_set_same g.S.Entries.remaining c.self.inside.cursors.items c.first_place-place.result c.index_mut.result.now c.advance_cursor.new.cursor here c.in_err-head.ensures.err ∙ c.self.view_is)

pub returns-in_err-head-clause-err : goal.returns-in_err-head-clause-err
returns-in_err-head-clause-err g c = on_err_weaker c.from_residual.result (ap (merged g.C.Comparator.cmp)) (returns-in_err-head-clause-unchanged g c)

pub returns-clause-advanced : goal.returns-clause-advanced
returns-clause-advanced g c =
    let cmp = g.C.Comparator.cmp in
    let lists : List (List Entry) = map g.S.Entries.remaining c.self.inside.cursors.items in
    let m : IsMerging cmp lists (Some c.first_place-place.result) = subst (λ cursors. IsMerging cmp (map g.S.Entries.remaining cursors) (Some c.first_place-place.result)) c.as_slice-cursors.ensures.value c.first_place-place.ensures in
    let within : c.first_place-place.result < length c.self.inside.cursors.items = omega (arith, place_within cmp lists c.first_place-place.result m, length-map c.self.inside.cursors.items g.S.Entries.remaining) in
    let here = at_place g.S.Entries.remaining c.self.inside.cursors.items c.first_place-place.result c.index_mut.result.now within c.index_mut.ensures.value in
    subst (λ (old : List (List Entry)). IsAdvanced cmp old (map g.S.Entries.remaining (set c.self.inside.cursors.items c.first_place-place.result c.advance_cursor.new.cursor))) c.self.view_is
    (subst (IsAdvanced cmp lists) (sym (map-set g.S.Entries.remaining c.self.inside.cursors.items c.first_place-place.result c.advance_cursor.new.cursor))
    (advanced cmp lists c.first_place-place.result (g.S.Entries.remaining c.index_mut.result.now) (g.S.Entries.remaining c.advance_cursor.new.cursor) m here c.in_ok-head.ensures.ok))

pub returns-clause-ok : goal.returns-clause-ok
returns-clause-ok g c =
    let cmp = g.C.Comparator.cmp in
    let lists : List (List Entry) = map g.S.Entries.remaining c.self.inside.cursors.items in
    let m : IsMerging cmp lists (Some c.first_place-place.result) = subst (λ cursors. IsMerging cmp (map g.S.Entries.remaining cursors) (Some c.first_place-place.result)) c.as_slice-cursors.ensures.value c.first_place-place.ensures in
    let within : c.first_place-place.result < length c.self.inside.cursors.items = omega (arith, place_within cmp lists c.first_place-place.result m, length-map c.self.inside.cursors.items g.S.Entries.remaining) in
    let here = at_place g.S.Entries.remaining c.self.inside.cursors.items c.first_place-place.result c.index_mut.result.now within c.index_mut.ensures.value in
    ap (merged cmp) (map-set g.S.Entries.remaining c.self.inside.cursors.items c.first_place-place.result c.advance_cursor.new.cursor)
    ∙ merged_behind cmp g.met.C.Comparator.total lists c.first_place-place.result (g.S.Entries.remaining c.index_mut.result.now) (g.S.Entries.remaining c.advance_cursor.new.cursor) m here c.in_ok-head.ensures.ok
    ∙ ap (λ ls. drop 1 (merged cmp ls)) c.self.view_is

pub play_path-requires : goal.play_path-requires
play_path-requires g c κs =
    let cmp = g.C.Comparator.cmp in
    let remaining = g.S.Entries.remaining in
    let cursors = c.self.inside.cursors.items in
    let lists : List (List Entry) = map remaining cursors in
    let m : IsMerging cmp lists (Some c.first_place-place.result) = subst (λ cursors. IsMerging cmp (map remaining cursors) (Some c.first_place-place.result)) c.as_slice-cursors.ensures.value c.first_place-place.ensures in
    let within : c.first_place-place.result < length cursors = omega (arith, place_within cmp lists c.first_place-place.result m, length-map cursors remaining) in
    let same : length c.as_slice-changed.result.now ≡ length cursors = ap length c.as_slice-changed.ensures.value ∙ length-set cursors c.first_place-place.result c.advance_cursor.new.cursor in
    let bracket = bracket_on cmp remaining cursors c.as_slice-changed.result.now c.first_place-place.result c.advance_cursor.new.cursor c.as_slice-changed.ensures.value c.self.inside.winners.items c.as_mut_slice-winners.result.now c.as_mut_slice-winners.ensures.value c.self.invariant.tournament in
    let others = path_on cmp remaining cursors c.as_slice-changed.result.now c.first_place-place.result c.advance_cursor.new.cursor c.as_slice-changed.ensures.value c.self.inside.winners.items c.as_mut_slice-winners.result.now c.as_mut_slice-winners.ensures.value c.self.invariant.tournament in
    let heads = subst (λ hs. AreHeads g.C.Comparator.head_of (map remaining c.as_slice-changed.result.now) hs) (sym c.as_slice-heads.ensures.value)
    (subst (λ cs. AreHeads g.C.Comparator.head_of (map remaining cs) (set c.self.inside.heads.items c.first_place-place.result c.in_ok-head.head)) (sym c.as_slice-changed.ensures.value)
    (cursors_on g.C.Comparator.head_of remaining cursors c.self.inside.heads.items c.first_place-place.result c.in_ok-head.head c.advance_cursor.new.cursor c.self.invariant.headed within c.in_ok-head.ensures.head)) in
    ((refl, tt), (omega (arith, within, same), (heads, (bracket, others))))

pub invariant_of-self-2 : goal.invariant_of-self-2
invariant_of-self-2 g c =
    let cmp = g.C.Comparator.cmp in
    let remaining = g.S.Entries.remaining in
    let cursors = c.self.inside.cursors.items in
    let lists : List (List Entry) = map remaining cursors in
    let m : IsMerging cmp lists (Some c.first_place-place.result) = subst (λ cursors. IsMerging cmp (map remaining cursors) (Some c.first_place-place.result)) c.as_slice-cursors.ensures.value c.first_place-place.ensures in
    let within : c.first_place-place.result < length cursors = omega (arith, place_within cmp lists c.first_place-place.result m, length-map cursors remaining) in
    let here = at_place remaining cursors c.first_place-place.result c.index_mut.result.now within c.index_mut.ensures.value in
    let same : length c.play_path.new.winners ≡ c.self.inside.winners.len = omega (arith, c.play_path.auto.winners, c.as_mut_slice-winners.ensures.len) in
    record {
      tournament = subst (λ (winners : List ℕ). IsTournament cmp (map remaining (set cursors c.first_place-place.result c.advance_cursor.new.cursor)) winners) (sym (with_items_is c.self.inside.winners c.play_path.new.winners same))
          (tournament_on cmp remaining cursors c.as_slice-changed.result.now c.first_place-place.result c.advance_cursor.new.cursor c.as_slice-changed.ensures.value c.play_path.new.winners (remaining c.index_mut.result.now) c.self.invariant.tournament.ordered here
          c.in_ok-head.ensures.ok c.play_path.ensures.bracket c.play_path.ensures.played);
      headed = cursors_on g.C.Comparator.head_of remaining cursors c.self.inside.heads.items c.first_place-place.result c.in_ok-head.head c.advance_cursor.new.cursor c.self.invariant.headed within c.in_ok-head.ensures.head;
    }
