use Rattle.std.proofs.Common.{◌≡◌, ◌++◌, ◌∷◌, [], ◌+◌, ◌<◌, ℕ, Bor, List, map, take, drop, length, get_or, refl, sym, ap, subst, ◌∙◌, arith}
use Rattle.std.specs.Prelude.{Contains}
use Rattle.std.proofs.Math.ListN.{get_or-map}
use Rattle.std.proofs.lemmas.List.{length-map, drop-map, take-map}
use Rattle.table.specs.EncodedEntry.{Entry}
use Rattle.table.specs.TableContents.{Contents}
use Rattle.reads.proofs.Members.{none_in}
use Rattle.checks.specs.TableBounds.{FallAlike, IsApartFromOthers}
use Rattle.checks.proofs.BoundsLemmas.{more_from, still_from, walk_begins, walk_ends, walk_goes_on, walk_passes}
use Rattle.checks.proofs.table_bounds.tables_to_walk.Goals as goal
use Rattle.checks.proofs.table_bounds.tables_to_walk.Goals.{then-not-is_settled+in_ok-push, else-not-is_settled}

abbrev entries_in : Bor Contents → List Entry
entries_in t = t.now.entries

pub loop-place-init : goal.loop-place-init
loop-place-init g c =
    let all : List (List Entry) = map entries_in c.args.tables.now in
    let none : map entries_in c.new-walked.result.items ≡ [] = ap (map entries_in) c.new-walked.ensures.items in
    record {
      alike = walk_begins g.C.Comparator.cmp (map entries_in c.new-walked.result.items) all none;
      from = λ list at. absurd (none_in list (subst (λ (ls : List (List Entry)). Contains ls list) none at));
    }

map_push : (ts : List (Bor Contents)) (t : Bor Contents) → map entries_in (ts ++ t ∷ []) ≡ map entries_in ts ++ entries_in t ∷ []
map_push [] t = refl
map_push (u ∷ ts) t = ap (λ (ls : List (List Entry)). entries_in u ∷ ls) (map_push ts t)

pub loop-place-preserved : goal.loop-place-preserved
loop-place-preserved g c =
    let cmp = g.C.Comparator.cmp in
    let tables : List (Bor Contents) = c.args.tables.now in
    let all : List (List Entry) = map entries_in tables in
    let was : List (Bor Contents) = c.loop-place.walked.items in
    let k : ℕ = c.loop-place.place in
    let t : Bor Contents = c.index-tables-place.result in
    let kept = c.loop-place.invariant in
    let lt : k < length all = omega (arith, length-map tables entries_in) in
    let is : entries_in t ≡ get_or all k (entries_in t) = ap entries_in c.index-tables-place.is ∙ sym (get_or-map entries_in tables k t) in
    elim c.if-not-is_settled.branch [
      | then-not-is_settled+in_ok-push w ↦
          let now : map entries_in c.if-not-is_settled.walked.items ≡ map entries_in was ++ entries_in t ∷ [] = ap (map entries_in) (ap (λ v. v.items) w.walked-is ∙ w.in_ok-push.ensures.items) ∙ map_push was t in
          record {
            alike = subst (λ (ls : List (List Entry)). FallAlike cmp (ls ++ drop (k + 1) all) all) (sym now) (walk_goes_on cmp (map entries_in was) all k (entries_in t) lt is kept.alike);
            from = subst (λ (ls : List (List Entry)). (list : List Entry) → Contains ls list → Contains (take (k + 1) all) list) (sym now) (more_from (map entries_in was) all k (entries_in t) lt is kept.from);
          }
      | else-not-is_settled w ↦
          let now : map entries_in c.if-not-is_settled.walked.items ≡ map entries_in was = ap (λ v. map entries_in v.items) w.walked-is in
          let before : map entries_in c.split_at.result.0.now ≡ take k all = ap (map entries_in) c.split_at.ensures.front ∙ sym (take-map entries_in k tables) in
          let behind : map entries_in c.split_at-in-loop-place.result.1.now ≡ drop (k + 1) all = ap (map entries_in) c.split_at-in-loop-place.ensures.back ∙ sym (drop-map entries_in (k + 1) tables) in
          let settled : IsApartFromOthers (take k all) (entries_in t) (drop (k + 1) all) =
          subst (λ (ls : List (List Entry)). IsApartFromOthers ls (entries_in t) (drop (k + 1) all)) before
          (subst (λ (ls : List (List Entry)). IsApartFromOthers (map entries_in c.split_at.result.0.now) (entries_in t) ls) behind (c.is_settled.ensures w.if-not-is_settled.false)) in
          record {
            alike = subst (λ (ls : List (List Entry)). FallAlike cmp (ls ++ drop (k + 1) all) all) (sym now) (walk_passes cmp (map entries_in was) all k (entries_in t) lt is kept.from settled kept.alike);
            from = subst (λ (ls : List (List Entry)). (list : List Entry) → Contains ls list → Contains (take (k + 1) all) list) (sym now) (still_from (map entries_in was) all k (entries_in t) lt kept.from);
          }
    ]

pub returns-clause-walked : goal.returns-clause-walked
returns-clause-walked g c =
    let all : List (List Entry) = map entries_in c.args.tables.now in
    walk_ends g.C.Comparator.cmp (map entries_in c.loop-place.walked.items) all c.loop-place.place (omega (arith, length-map c.args.tables.now entries_in)) c.loop-place.invariant.alike
