use Rattle.std.proofs.Common.{◌≡◌, ℕ, ◌+◌, ◌*◌, ◌/◌, ◌<◌, List, [], ◌∷◌, ◌++◌, length, map, get_or, Some, refl, sym, ap, subst, ◌∙◌, arith}
use Rattle.std.proofs.lemmas.List.{length-map, get_or-map, map-append}
use Rattle.std.proofs.lemmas.Option.{slice_get_read}
use Rattle.std.specs.Prelude.{slice_get}
use Rattle.split.specs.SplitChoice.{IsListOf, IsAtPlaceBelow}
use Rattle.split.proofs.Places.{place, takes_at, skips, past, stays}
use Rattle.split.proofs.split_choice.at_places.Goals as goal
use Rattle.split.proofs.split_choice.at_places.Goals.{then-free-place+then-place-keys+in_ok-from_slice+in_ok-push, else-free-place, else-free-place-via-then-free-place+else-place-keys, else-free-place-via-else-free-place}

pub loop-number-preserved : goal.loop-number-preserved
loop-number-preserved g c =
    let cmp = g.C.Comparator.cmp in
    let ks : List (List ℕ) = map (λ key. key.now) c.args.keys.now in
    let many : length ks ≡ length c.args.keys.now = length-map c.args.keys.now (λ key. key.now) in
    let n = c.loop-number.number in
    let is_place : c.place_of-place.result ≡ place cmp ks c.args.want n = c.place_of-place.ensures ∙ ap (λ (m : ℕ). n * m / c.args.want) (sym many) in
    elim c.if-free-place.branch [
      | then-free-place+then-place-keys+in_ok-from_slice+in_ok-push w ↦
          let place_is : ℕ = c.place_of-place.result in
          let item : List ℕ = (get_or c.args.keys.now place_is record { ref_ptr = (0, 0); now = [] }).now in
          let below : place_is < length c.args.keys.now = omega arith in
          let here : slice_get ks place_is ≡ Some item = slice_get_read ks (length ks) place_is item refl (omega arith) (sym (get_or-map (λ v. v.now) c.args.keys.now place_is record { ref_ptr = (0, 0); now = [] } item below)) in
          let key_is : w.in_ok-from_slice.field-0.items ≡ item = w.in_ok-from_slice.ensures.items in
          let front : List (List ℕ) = map (λ key. key.items) c.loop-number.boundaries.items in
          let bs_is : map (λ key. key.items) c.if-free-place.boundaries.items ≡ front ++ item ∷ [] =
          ap (λ v. map (λ key. key.items) v.items) w.boundaries-is ∙ ap (map (λ key. key.items)) w.in_ok-push.ensures.items
          ∙ map-append (λ key. key.items) c.loop-number.boundaries.items (w.in_ok-from_slice.field-0 ∷ []) ∙ ap (λ (k : List ℕ). front ++ k ∷ []) key_is in
          takes_at cmp ks c.args.want n c.loop-number.free c.place_of-place.result c.if-free-place.free front _ item c.requires.rising (omega arith) is_place (omega arith) (omega arith) here w.free-is bs_is c.loop-number.invariant
      | else-free-place w ↦ stays cmp ks c.args.want (n + 1) c.loop-number.free c.if-free-place.free _ _ w.free-is (ap (λ v. map (λ key. key.items) v.items) w.boundaries-is)
          (elim w.else-free-place.branch [
            | else-free-place-via-then-free-place+else-place-keys w' ↦ past cmp ks c.args.want n c.loop-number.free _ (omega arith) (omega arith) c.loop-number.invariant
            | else-free-place-via-else-free-place w' ↦ skips cmp ks c.args.want n c.loop-number.free _ c.requires.least (omega arith) (omega arith) c.loop-number.invariant
          ])
    ]

pub returns-clause-places : goal.returns-clause-places
returns-clause-places g c =
    let at_end : c.loop-number.number ≡ c.args.want = omega arith in
    let P : ℕ → Type 0 = λ n. IsListOf g.C.Comparator.cmp (IsAtPlaceBelow (map (λ key. key.now) c.args.keys.now) c.args.want n) (map (λ key. key.items) c.loop-number.boundaries.items) in
    subst P at_end c.loop-number.invariant.listed
