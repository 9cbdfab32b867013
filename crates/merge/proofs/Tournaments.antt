-- A tournament: what a match does to it, what a change of one list does, and who wins at the root.
use Rattle.std.proofs.Common.{◌≡◌, ◌≢◌, ◌⊎◌, ℕ, ◌+◌, ◌-◌, ◌*◌, ◌/◌, ◌%◌, ◌<◌, ◌≤◌, List, [], ◌∷◌, ◌++◌, length, map, replicate, get_or, take, drop, set, suc, zero, Some, None, inl, inr, ⊎_elim, refl, sym, ap, subst, ◌∙◌, arith, length-set, get_or-set_same, get_or-set_other}
use Rattle.std.specs.Prelude.{slice_get}
use Rattle.std.specs.Option.{option_map}
use Rattle.std.specs.List.{AllByRecursion}
use Rattle.std.specs.Cmp.{IsTotalOrder}
use Rattle.std.specs.Ordering.{is_le, ordering_reverse}
use Rattle.std.specs.declared.cmp.Ordering.{Ordering}
use Rattle.std.specs.declared.cmp.Ordering.TheVariants.{Less, Equal, Greater}
use Rattle.std.specs.Int.Bits.{bit_xor, bit_and, xor_add_and}
use Rattle.std.proofs.lemmas.Nat.{and_mask}
use Rattle.std.proofs.Math.ListN.{length-replicate, get_or-replicate, get_or-append}
use Rattle.std.proofs.Math.Seq.{get_or-append_seam}
use Rattle.std.proofs.lemmas.Bool.{cases_eq, cases_lt}
use Rattle.std.proofs.lemmas.List.{get_or_default, nil_from_length, length_push, length-map, map-set}
use Rattle.std.proofs.lemmas.Option.{same_Some, none-some, slice_get_read, slice_get_within, get_or_from_slice_get}
use Rattle.table.specs.EncodedEntry.{Entry}
use Rattle.table.specs.Order.{internal_cmp}
use Rattle.table.proofs.Ordered.{internal_cmp-total}
use Rattle.table.specs.EntriesFrom.{NeverFalls}
use Rattle.merge.specs.MergedLists.{merged}
use Rattle.merge.specs.LeastList.{StartsAbove, StartsFrom, IsLeast, IsMerging}
use Rattle.merge.specs.Tournament.{AreBeside, IsAhead, Beats, IsWinner, IsBracket, IsPlayed, IsMatch, IsAboveBy, IsAbove, IsTournament}
use Rattle.merge.proofs.Orders.{lt_le_trans, never_falls_drop, all_append}
use Rattle.merge.proofs.Merges.{one_of}
use Rattle.merge.proofs.Leasts.{none_without_least, take_next}

-- ---- lists and their places

equal_self : (o : Ordering) → o ≡ ordering_reverse o → o ≡ Equal
equal_self Less h = absurd cc
equal_self Equal h = refl
equal_self Greater h = absurd cc

pub ahead_same : (cmp : List ℕ → List ℕ → Ordering) → IsTotalOrder cmp → (place : ℕ) (list : List Entry) → IsAhead cmp place list place list
ahead_same cmp total place [] = tt
ahead_same cmp total place (e ∷ es) = inr (equal_self (internal_cmp cmp e.key e.key) ((internal_cmp-total total).antisymm e.key e.key), omega arith)

ahead_trans : (cmp : List ℕ → List ℕ → Ordering) → IsTotalOrder cmp → (a : ℕ) (es : List Entry) (b : ℕ) (fs : List Entry) (c : ℕ) (gs : List Entry) → IsAhead cmp a es b fs → IsAhead cmp b fs c gs → IsAhead cmp a es c gs
ahead_trans cmp total a es b fs c [] h k = tt
ahead_trans cmp total a es b [] c (g ∷ gs) h k = absurd k
ahead_trans cmp total a [] b (f ∷ fs) c (g ∷ gs) h k = absurd h
ahead_trans cmp total a (e ∷ es) b (f ∷ fs) c (g ∷ gs) h k =
    ⊎_elim (λ below. inl (lt_le_trans cmp total e.key f.key g.key below (⊎_elim (λ lt. ap is_le lt) (λ same. ap is_le same.0) k)))
    (λ equal.
    ⊎_elim (λ lt. inl ((internal_cmp-total total).congr e.key f.key g.key equal.0 ∙ lt))
    (λ same. inr ((internal_cmp-total total).congr e.key f.key g.key equal.0 ∙ same.0, omega (arith, equal.1, same.1)))
    k
    )
    h

ahead_at : (cmp : List ℕ → List ℕ → Ordering) (a b : ℕ) (es es' fs fs' : List Entry) → es' ≡ es → fs' ≡ fs → IsAhead cmp a es b fs → IsAhead cmp a es' b fs'
ahead_at cmp a b es es' fs fs' p q h = subst (λ (l : List Entry). IsAhead cmp a l b fs') (sym p) (subst (λ (l : List Entry). IsAhead cmp a es b l) (sym q) h)

-- a match between lists that are as they were has the same winner
winner_kept : (cmp : List ℕ → List ℕ → Ordering) (old new : List (List Entry)) (one other winner : ℕ) → get_or new one [] ≡ get_or old one [] → get_or new other [] ≡ get_or old other [] → IsWinner cmp old one other winner
    → IsWinner cmp new one other winner
winner_kept cmp old new one other winner p q wins = record { either = wins.either; over_one = ahead_at cmp winner one _ _ _ _ same p wins.over_one; over_other = ahead_at cmp winner other _ _ _ _ same q wins.over_other }
  where
    moved : (place : ℕ) → get_or new place [] ≡ get_or old place [] → winner ≡ place → get_or new winner [] ≡ get_or old winner []
    moved place at is = ap (λ n. get_or new n []) is ∙ at ∙ sym (ap (λ n. get_or old n []) is)

    same : get_or new winner [] ≡ get_or old winner []
    same = ⊎_elim (moved one p) (moved other q) wins.either

winner_at : (cmp : List ℕ → List ℕ → Ordering) (lists : List (List Entry)) (one one' other other' winner winner' : ℕ) → one' ≡ one → other' ≡ other → winner' ≡ winner → IsWinner cmp lists one other winner
    → IsWinner cmp lists one' other' winner'
winner_at cmp lists one one' other other' winner winner' p q r wins =
    subst (λ n. IsWinner cmp lists n other' winner') (sym p) (subst (λ n. IsWinner cmp lists one n winner') (sym q) (subst (λ n. IsWinner cmp lists one other n) (sym r) wins))

pub winner_within : (cmp : List ℕ → List ℕ → Ordering) (lists : List (List Entry)) (one other winner number : ℕ) → IsWinner cmp lists one other winner → one < number → other < number → winner < number
winner_within cmp lists one other winner number wins low high =
    ⊎_elim (λ is. subst (λ n. n < number) (sym is) low) (λ is. subst (λ n. n < number) (sym is) high) wins.either

-- ---- the winner of two places, as the code finds it

pub wins_of_none : (cmp : List ℕ → List ℕ → Ordering) → IsTotalOrder cmp → (lists : List (List Entry)) (one other : ℕ) (more : List Entry) → slice_get lists other ≡ Some more → length more ≡ 0 → IsWinner cmp lists one other one
wins_of_none cmp total lists one other more there none = record {
  either = inl refl;
  over_one = ahead_same cmp total one (get_or lists one []);
  over_other = subst (λ (l : List Entry). IsAhead cmp one (get_or lists one []) other l) (sym (get_or_from_slice_get lists other more [] there ∙ nil_from_length more none)) tt;
}

pub none_wins : (cmp : List ℕ → List ℕ → Ordering) → IsTotalOrder cmp → (lists : List (List Entry)) (one other : ℕ) (list : List Entry) → slice_get lists one ≡ Some list → length list ≡ 0 → IsWinner cmp lists one other other
none_wins cmp total lists one other list here none = record {
  either = inr refl;
  over_one = subst (λ (l : List Entry). IsAhead cmp other (get_or lists other []) one l) (sym (get_or_from_slice_get lists one list [] here ∙ nil_from_length list none)) tt;
  over_other = ahead_same cmp total other (get_or lists other []);
}

-- the list at one place isn't after that at another, by their first keys
beats_by : (cmp : List ℕ → List ℕ → Ordering) (lists : List (List Entry)) (a b : ℕ) (list more : List Entry) (key more_key : List ℕ) → slice_get lists a ≡ Some list → slice_get lists b ≡ Some more → option_map (λ e. e.key) (slice_get list 0) ≡ Some key
    → option_map (λ e. e.key) (slice_get more 0) ≡ Some more_key → (internal_cmp cmp key more_key ≡ Less) ⊎ ((internal_cmp cmp key more_key ≡ Equal) × (a ≤ b)) → Beats cmp lists a b
beats_by cmp lists a b [] more key more_key here there first second h = absurd (none-some key first)
beats_by cmp lists a b (e ∷ es) [] key more_key here there first second h = absurd (none-some more_key second)
beats_by cmp lists a b (e ∷ es) (f ∷ fs) key more_key here there first second h =
    ahead_at cmp a b (e ∷ es) (get_or lists a []) (f ∷ fs) (get_or lists b []) (get_or_from_slice_get lists a (e ∷ es) [] here) (get_or_from_slice_get lists b (f ∷ fs) [] there)
    (subst (λ (k : List ℕ). (internal_cmp cmp k f.key ≡ Less) ⊎ ((internal_cmp cmp k f.key ≡ Equal) × (a ≤ b))) (sym (same_Some e.key key first))
    (subst (λ (k : List ℕ). (internal_cmp cmp key k ≡ Less) ⊎ ((internal_cmp cmp key k ≡ Equal) × (a ≤ b))) (sym (same_Some f.key more_key second)) h))

module _ (cmp : List ℕ → List ℕ → Ordering) (total : IsTotalOrder cmp) (lists : List (List Entry)) (one other : ℕ) (list more : List Entry) (key more_key : List ℕ) (here : slice_get lists one ≡ Some list) (there : slice_get lists other ≡ Some more)
    (first : option_map (λ e. e.key) (slice_get list 0) ≡ Some key) (second : option_map (λ e. e.key) (slice_get more 0) ≡ Some more_key) where
  pub lesser_wins : internal_cmp cmp key more_key ≡ Less → IsWinner cmp lists one other one
  lesser_wins below = record {
    either = inl refl;
    over_one = ahead_same cmp total one (get_or lists one []);
    over_other = beats_by cmp lists one other list more key more_key here there first second (inl below);
  }

  pub greater_loses : internal_cmp cmp key more_key ≡ Greater → IsWinner cmp lists one other other
  greater_loses above = record {
    either = inr refl;
    over_one = beats_by cmp lists other one more list more_key key there here second first (inl ((internal_cmp-total total).antisymm more_key key ∙ ap ordering_reverse above));
    over_other = ahead_same cmp total other (get_or lists other []);
  }

  pub lower_wins : (winner : ℕ) → internal_cmp cmp key more_key ≡ Equal → (winner ≡ one) ⊎ (winner ≡ other) → winner ≤ one → winner ≤ other → IsWinner cmp lists one other winner
  lower_wins winner same either low high = record {
    either = either;
    over_one = ⊎_elim (λ is. subst (λ n. Beats cmp lists n one) (sym is) (ahead_same cmp total one (get_or lists one [])))
        (λ is. subst (λ n. Beats cmp lists n one) (sym is) (beats_by cmp lists other one more list more_key key there here second first (inr ((internal_cmp-total total).antisymm more_key key ∙ ap ordering_reverse same, omega arith)))) either;
    over_other = ⊎_elim (λ is. subst (λ n. Beats cmp lists n other) (sym is) (beats_by cmp lists one other list more key more_key here there first second (inr (same, omega arith))))
        (λ is. subst (λ n. Beats cmp lists n other) (sym is) (ahead_same cmp total other (get_or lists other []))) either;
  }

pub stands_at : (lists : List (List Entry)) (place : ℕ) → place < length lists → slice_get lists place ≡ Some (get_or lists place [])
stands_at lists place within = slice_get_read lists (length lists) place (get_or lists place []) refl within (get_or_default lists place [] (get_or lists place []) within)

-- the nodes below one node differ in the lowest bit
pub lowest_bit : (node : ℕ) → AreBeside node (bit_xor node 1)
lowest_bit node =
    let sum : bit_xor node 1 + bit_and node 1 * 2 ≡ node + 1 = xor_add_and node 1 in
    let low : bit_and node 1 ≡ node % 2 = and_mask node 1 in
    elim (cases_lt (node % 2) 1) [
      | inl even ↦ inl (omega (arith, even), omega (arith, even, sum, low))
      | inr odd ↦ inr (omega (arith, odd), omega (arith, odd, sum, low))
    ]

-- the places of the two below a node are places
pub left_in : (number : ℕ) (winners : List ℕ) (node : ℕ) → IsBracket number winners → node < number → get_or winners (2 * node) 0 < number
left_in number winners node bracket inner = bracket.within (2 * node) (let size = bracket.size in omega (arith, size, inner))

pub right_in : (number : ℕ) (winners : List ℕ) (node : ℕ) → IsBracket number winners → node < number → get_or winners (2 * node + 1) 0 < number
right_in number winners node bracket inner = bracket.within (2 * node + 1) (let size = bracket.size in omega (arith, size, inner))

-- ---- a match is played

half_of : (k child : ℕ) → (child ≡ 2 * k) ⊎ (child ≡ 2 * k + 1) → k ≡ child / 2
half_of k child (inl is) = omega arith
half_of k child (inr is) = omega arith

above_half : (steps k child leaf : ℕ) → k ≡ child / 2 → IsAboveBy steps child leaf → IsAboveBy (suc steps) k leaf
above_half zero k child leaf is above = absurd above
above_half (suc steps) k child leaf is (inl at) = inr (inl (is ∙ ap (λ n. n / 2) at))
above_half (suc steps) k child leaf is (inr above) = inr (above_half steps k child (leaf / 2) is above)

-- what is above a node is above those below that
above_child : (k child leaf : ℕ) → (child ≡ 2 * k) ⊎ (child ≡ 2 * k + 1) → (child ≡ leaf) ⊎ IsAbove child leaf → IsAbove k leaf
above_child k child leaf is (inl same) = (1, inl (half_of k child is ∙ ap (λ n. n / 2) same))
above_child k child leaf is (inr above) = (suc above.0, above_half above.0 k child leaf (half_of k child is) above.1)

above_next : (steps k leaf : ℕ) → IsAboveBy steps k leaf → (k ≡ leaf / 2) ⊎ IsAbove k (leaf / 2)
above_next zero k leaf above = absurd above
above_next (suc steps) k leaf (inl is) = inl is
above_next (suc steps) k leaf (inr above) = inr (steps, above)

none_above_root : (steps k leaf : ℕ) → IsAboveBy steps k leaf → leaf ≤ 1 → 0 < k → ⊥
none_above_root zero k leaf above low some = above
none_above_root (suc steps) k leaf (inl is) low some = omega arith
none_above_root (suc steps) k leaf (inr above) low some = none_above_root steps k (leaf / 2) above (omega arith) some

module _ (cmp : List ℕ → List ℕ → Ordering) (lists : List (List Entry)) where
  -- what is left after the match at a node is played
  pub played_next : (number : ℕ) (old new : List ℕ) (node : ℕ) (IsLeft IsNext : ℕ → Type 0) → length lists ≡ number → IsBracket number old → IsPlayed cmp lists old IsLeft → 0 < node → node < number → IsMatch cmp lists old node new
      → ((k : ℕ) → 0 < k → IsLeft k → (k ≡ node) ⊎ IsNext k) → ((k child : ℕ) → 0 < k → (child ≡ 2 * k) ⊎ (child ≡ 2 * k + 1) → child ≡ node → IsNext k) → IsPlayed cmp lists new IsNext
  played_next number old new node IsLeft IsNext count bracket before some inner match goes up = record { played = λ k low high. at k low high (cases_eq k node) }
    where
      here : node < length old
      here = let size = bracket.size in omega (arith, size, inner)

      same : (k : ℕ) → k ≢ node → get_or new k 0 ≡ get_or old k 0
      same k apart = ap (λ (ws : List ℕ). get_or ws k 0) match.noted ∙ get_or-set_other old node k match.winner 0 apart

      new_here : get_or new node 0 ≡ match.winner
      new_here = ap (λ (ws : List ℕ). get_or ws node 0) match.noted ∙ get_or-set_same old node match.winner 0 here

      won_here : IsWinner cmp lists (get_or new (2 * node) 0) (get_or new (2 * node + 1) 0) (get_or new node 0)
      won_here = winner_at cmp lists (get_or old (2 * node) 0) _ (get_or old (2 * node + 1) 0) _ match.winner _ (same (2 * node) (omega (arith, some))) (same (2 * node + 1) (omega (arith, some))) new_here match.wins

      between : (k : ℕ) → 0 < k → k ≢ node → IsWinner cmp lists (get_or old (2 * k) 0) (get_or old (2 * k + 1) 0) (get_or old k 0) → (2 * k ≡ node) ⊎ (2 * k ≢ node) → (2 * k + 1 ≡ node) ⊎ (2 * k + 1 ≢ node)
          → IsNext k ⊎ IsWinner cmp lists (get_or new (2 * k) 0) (get_or new (2 * k + 1) 0) (get_or new k 0)
      between k low apart wins (inl is) other = inl (up k (2 * k) low (inl refl) is)
      between k low apart wins (inr a) (inl is) = inl (up k (2 * k + 1) low (inr refl) is)
      between k low apart wins (inr a) (inr b) =
          inr (winner_at cmp lists (get_or old (2 * k) 0) _ (get_or old (2 * k + 1) 0) _ (get_or old k 0) _ (same (2 * k) a) (same (2 * k + 1) b) (same k apart) wins)

      at : (k : ℕ) → 0 < k → k < length lists → (k ≡ node) ⊎ (k ≢ node) → IsNext k ⊎ IsWinner cmp lists (get_or new (2 * k) 0) (get_or new (2 * k + 1) 0) (get_or new k 0)
      at k low high (inl is) = inr (subst (λ n. IsWinner cmp lists (get_or new (2 * n) 0) (get_or new (2 * n + 1) 0) (get_or new n 0)) (sym is) won_here)
      at k low high (inr apart) =
          ⊎_elim (λ left. ⊎_elim (λ is. absurd (apart is)) (λ next. inl next) (goes k low left))
          (λ wins. between k low apart wins (cases_eq (2 * k) node) (cases_eq (2 * k + 1) node))
          (before.played k low high)

  -- the match at the half of a node: what is above that half is left
  pub played_up : (number : ℕ) (old new : List ℕ) (node : ℕ) → length lists ≡ number → IsBracket number old → IsPlayed cmp lists old (λ k. IsAbove k node) → 0 < node / 2 → node / 2 < number → IsMatch cmp lists old (node / 2) new
      → IsPlayed cmp lists new (λ k. IsAbove k (node / 2))
  played_up number old new node count bracket before some inner match =
      played_next number old new (node / 2) (λ k. IsAbove k node) (λ k. IsAbove k (node / 2)) count bracket before some inner match
      (λ k low above. above_next above.0 k node above.1)
      (λ k child low is same. above_child k child (node / 2) is (inl same))

  -- the match at a node, if those below it are played
  pub played_down : (number : ℕ) (old new : List ℕ) (top node : ℕ) → top ≡ node + 1 → length lists ≡ number → IsBracket number old → IsPlayed cmp lists old (λ k. k < top) → 0 < node → node < number → IsMatch cmp lists old node new
      → IsPlayed cmp lists new (λ k. k < node)
  played_down number old new top node next count bracket before some inner match =
      played_next number old new node (λ k. k < top) (λ k. k < node) count bracket before some inner match
      (λ k low left. ⊎_elim (λ below. inr below) (λ from. inl (omega (arith, next, left, from))) (cases_lt k node))
      (λ k child low is same. ⊎_elim (λ even. omega (arith, low, same, even)) (λ odd. omega (arith, low, same, odd)) is)

  pub none_played : (winners : List ℕ) (number : ℕ) → length lists ≡ number → IsPlayed cmp lists winners (λ k. k < number)
  none_played winners number count = record { played = λ k low high. inl (omega (arith, count, high)) }

  pub all_played_up : (winners : List ℕ) (node : ℕ) → IsPlayed cmp lists winners (λ k. IsAbove k node) → node ≤ 1 → IsPlayed cmp lists winners (λ k. ⊥)
  all_played_up winners node before low = record { played = λ k some high. ⊎_elim (λ above. absurd (none_above_root above.0 k node above.1 low some)) (λ wins. inr wins) (before.played k some high) }

  pub all_played_down : (winners : List ℕ) (node : ℕ) → IsPlayed cmp lists winners (λ k. k < node) → node ≤ 1 → IsPlayed cmp lists winners (λ k. ⊥)
  all_played_down winners node before low = record { played = λ k some high. ⊎_elim (λ left. absurd (omega (arith, left, low, some))) (λ wins. inr wins) (before.played k some high) }

  pub winner_of : (winners : List ℕ) → IsPlayed cmp lists winners (λ k. ⊥) → (k : ℕ) → 0 < k → k < length lists → IsWinner cmp lists (get_or winners (2 * k) 0) (get_or winners (2 * k + 1) 0) (get_or winners k 0)
  winner_of winners all k low high = ⊎_elim (λ none. absurd none) (λ wins. wins) (all.played k low high)

  -- if a place won at a node, it is that node's or one's below
  holder : (winners : List ℕ) (number place : ℕ) → length lists ≡ number → IsBracket number winners → IsPlayed cmp lists winners (λ k. ⊥) → (fuel node : ℕ) → 0 < node → node < length winners → length winners ≤ node + fuel
      → get_or winners node 0 ≡ place → (node ≡ number + place) ⊎ IsAbove node (number + place)
  holder winners number place count bracket all zero node low high bound is = absurd (omega arith)
  holder winners number place count bracket all (suc fuel) node low high bound is = by_level (holder winners number place count bracket all fuel) (cases_lt node number)
    where
      size : length winners ≡ number + number
      size = bracket.size

      leaf : number ≤ node → get_or winners node 0 ≡ node - number
      leaf from =
          let whole : node ≡ number + (node - number) = omega (arith, from) in
          let less : node - number < number = omega (arith, size, from, high) in
          ap (λ n. get_or winners n 0) whole ∙ bracket.leaves (node - number) less

      by_level : ((child : ℕ) → 0 < child → child < length winners → length winners ≤ child + fuel → get_or winners child 0 ≡ place → (child ≡ number + place) ⊎ IsAbove child (number + place)) → (node < number) ⊎ (number ≤ node)
          → (node ≡ number + place) ⊎ IsAbove node (number + place)
      by_level below (inl inner) =
          let wins = winner_of winners all node low (omega (arith, count, inner)) in
          ⊎_elim (λ one. inr (above_child node (2 * node) (number + place) (inl refl) (below (2 * node) (omega (arith, low)) (omega (arith, size, inner)) (omega (arith, low, bound)) (sym one ∙ is))))
          (λ other. inr (above_child node (2 * node + 1) (number + place) (inr refl) (below (2 * node + 1) (omega (arith, low)) (omega (arith, size, inner)) (omega (arith, low, bound)) (sym other ∙ is))))
          wins.either
      by_level below (inr from) = inl (omega (arith, leaf from, is, from))

  -- what a change of the list at one place leaves to be played
  pub path_left : (new : List (List Entry)) (winners : List ℕ) (number place : ℕ) → length lists ≡ number → length new ≡ number → ((other : ℕ) → other ≢ place → get_or new other [] ≡ get_or lists other []) → IsBracket number winners
      → IsPlayed cmp lists winners (λ k. ⊥) → IsPlayed cmp new winners (λ k. IsAbove k (number + place))
  path_left new winners number place count again same bracket all = record {
    played = λ k low high.
        by_winners k low (omega (arith, high, again)) (cases_eq (get_or winners (2 * k) 0) place) (cases_eq (get_or winners (2 * k + 1) 0) place);
  }
    where
      size : length winners ≡ number + number
      size = bracket.size

      by_winners : (k : ℕ) → 0 < k → k < number → (get_or winners (2 * k) 0 ≡ place) ⊎ (get_or winners (2 * k) 0 ≢ place) → (get_or winners (2 * k + 1) 0 ≡ place) ⊎ (get_or winners (2 * k + 1) 0 ≢ place)
          → IsAbove k (number + place) ⊎ IsWinner cmp new (get_or winners (2 * k) 0) (get_or winners (2 * k + 1) 0) (get_or winners k 0)
      by_winners k low high (inl is) other =
          inl (above_child k (2 * k) (number + place) (inl refl) (holder winners number place count bracket all (length winners) (2 * k) (omega (arith, low)) (omega (arith, size, high)) (omega arith) is))
      by_winners k low high (inr a) (inl is) =
          inl (above_child k (2 * k + 1) (number + place) (inr refl) (holder winners number place count bracket all (length winners) (2 * k + 1) (omega (arith, low)) (omega (arith, size, high)) (omega arith) is))
      by_winners k low high (inr a) (inr b) =
          inr (winner_kept cmp lists new (get_or winners (2 * k) 0) (get_or winners (2 * k + 1) 0) (get_or winners k 0) (same (get_or winners (2 * k) 0) a) (same (get_or winners (2 * k + 1) 0) b) (winner_of winners all k low (omega (arith, count, high))))

-- the winner that is noted at a node
pub bracket_next : (number : ℕ) (old : List ℕ) (node winner : ℕ) → IsBracket number old → 0 < node → node < number → winner < number → IsBracket number (set old node winner)
bracket_next number old node winner bracket some inner low = record {
  size = length-set old node winner ∙ bracket.size;
  within = λ k high. at k (omega (arith, high, length-set old node winner)) (cases_eq k node);
  leaves = λ place high. get_or-set_other old node (number + place) winner 0 (omega (arith, inner)) ∙ bracket.leaves place high;
}
  where
    here : node < length old
    here = let size = bracket.size in omega (arith, size, inner)

    at : (k : ℕ) → k < length old → (k ≡ node) ⊎ (k ≢ node) → get_or (set old node winner) k 0 < number
    at k high (inl is) = subst (λ n. n < number) (sym (ap (λ n. get_or (set old node winner) n 0) is ∙ get_or-set_same old node winner 0 here)) low
    at k high (inr apart) = subst (λ n. n < number) (sym (get_or-set_other old node k winner 0 apart)) (bracket.within k high)

-- ---- the root

module _ (cmp : List ℕ → List ℕ → Ordering) (total : IsTotalOrder cmp) (lists : List (List Entry)) where
  root_ahead : (winners : List ℕ) (number : ℕ) → length lists ≡ number → IsBracket number winners → IsPlayed cmp lists winners (λ k. ⊥) → (fuel node : ℕ) → 0 < node → node < length winners → node ≤ fuel
      → Beats cmp lists (get_or winners 1 0) (get_or winners node 0)
  root_ahead winners number count bracket all zero node low high bound = absurd (omega arith)
  root_ahead winners number count bracket all (suc fuel) node low high bound = by_level (root_ahead winners number count bracket all fuel) (cases_eq node 1)
    where
      size : length winners ≡ number + number
      size = bracket.size

      below_half : 0 < node / 2 → (node ≡ 2 * (node / 2)) ⊎ (node ≢ 2 * (node / 2)) → Beats cmp lists (get_or winners (node / 2) 0) (get_or winners node 0)
      below_half some (inl even) =
          subst (λ n. Beats cmp lists (get_or winners (node / 2) 0) (get_or winners n 0)) (sym even) (winner_of cmp lists winners all (node / 2) some (omega (arith, size, count, high))).over_one
      below_half some (inr odd) =
          let next : node ≡ 2 * (node / 2) + 1 = omega (arith, odd) in
          subst (λ n. Beats cmp lists (get_or winners (node / 2) 0) (get_or winners n 0)) (sym next) (winner_of cmp lists winners all (node / 2) some (omega (arith, size, count, high))).over_other

      by_level : ((up : ℕ) → 0 < up → up < length winners → up ≤ fuel → Beats cmp lists (get_or winners 1 0) (get_or winners up 0)) → (node ≡ 1) ⊎ (node ≢ 1) → Beats cmp lists (get_or winners 1 0) (get_or winners node 0)
      by_level above (inl is) =
          subst (λ n. Beats cmp lists (get_or winners 1 0) (get_or winners n 0)) (sym is) (ahead_same cmp total (get_or winners 1 0) (get_or lists (get_or winners 1 0) []))
      by_level above (inr apart) =
          let some : 0 < node / 2 = omega (arith, low, apart) in
          ahead_trans cmp total (get_or winners 1 0) (get_or lists (get_or winners 1 0) []) (get_or winners (node / 2) 0) (get_or lists (get_or winners (node / 2) 0) []) (get_or winners node 0) (get_or lists (get_or winners node 0) [])
          (above (node / 2) some (omega (arith, high)) (omega (arith, low, bound))) (below_half some (cases_eq node (2 * (node / 2))))

  -- no list starts before the one at the root
  root_beats : (winners : List ℕ) → IsTournament cmp lists winners → (place : ℕ) → place < length lists → Beats cmp lists (get_or winners 1 0) place
  root_beats winners t place high =
      let size : length winners ≡ length lists + length lists = t.bracket.size in
      subst (Beats cmp lists (get_or winners 1 0)) (t.bracket.leaves place high)
      (root_ahead winners (length lists) refl t.bracket t.matches (length lists + place) (length lists + place) (omega arith) (omega arith) (omega arith))

-- ---- what comes next

all_taken : (P : List Entry → Type 0) (n : ℕ) (lists : List (List Entry)) → ((i : ℕ) → i < n → i < length lists → P (get_or lists i [])) → AllByRecursion P (take n lists)
all_taken P zero lists h = tt
all_taken P (suc n) [] h = tt
all_taken P (suc n) (l ∷ ls) h = (h 0 (omega arith) (omega arith), all_taken P n ls (λ i low high. h (suc i) (omega (arith, low)) (omega (arith, high))))

all_dropped : (P : List Entry → Type 0) (n : ℕ) (lists : List (List Entry)) → ((i : ℕ) → n ≤ i → i < length lists → P (get_or lists i [])) → AllByRecursion P (drop n lists)
all_dropped P zero [] h = tt
all_dropped P zero (l ∷ ls) h = (h 0 (omega arith) (omega arith), all_dropped P zero ls (λ i low high. h (suc i) (omega arith) (omega (arith, high))))
all_dropped P (suc n) [] h = tt
all_dropped P (suc n) (l ∷ ls) h = all_dropped P n ls (λ i low high. h (suc i) (omega (arith, low)) (omega (arith, high)))

least_of : (cmp : List ℕ → List ℕ → Ordering) (lists : List (List Entry)) (root : ℕ) (e : Entry) (es : List Entry) → root < length lists → get_or lists root [] ≡ e ∷ es → ((i : ℕ) → i < length lists → Beats cmp lists root i) → IsLeast cmp lists root
least_of cmp lists root e es within is beats = record {
  first = e;
  others = es;
  here = slice_get_read lists (length lists) root (e ∷ es) refl within (sym is ∙ get_or_default lists root [] (e ∷ es) within);
  before = all_taken (StartsAbove cmp e.key) root lists (λ i low high. above i (get_or lists i []) low (ahead i high));
  behind = all_dropped (StartsFrom cmp e.key) (root + 1) lists (λ i low high. from i (get_or lists i []) (ahead i high));
}
  where
    ahead : (i : ℕ) → i < length lists → IsAhead cmp root (e ∷ es) i (get_or lists i [])
    ahead i high = subst (λ (l : List Entry). IsAhead cmp root l i (get_or lists i [])) is (beats i high)

    above : (i : ℕ) (list : List Entry) → i < root → IsAhead cmp root (e ∷ es) i list → StartsAbove cmp e.key list
    above i [] low h = tt
    above i (f ∷ fs) low h = ⊎_elim (λ lt. lt) (λ same. absurd (omega (arith, low, same.1))) h

    from : (i : ℕ) (list : List Entry) → IsAhead cmp root (e ∷ es) i list → StartsFrom cmp e.key list
    from i [] h = tt
    from i (f ∷ fs) h = ⊎_elim (λ lt. ap is_le lt) (λ same. ap is_le same.0) h

none_of : (cmp : List ℕ → List ℕ → Ordering) (lists : List (List Entry)) (root : ℕ) → get_or lists root [] ≡ [] → ((i : ℕ) → i < length lists → Beats cmp lists root i) → AllByRecursion (λ list. list ≡ []) lists
none_of cmp lists root is beats = all_dropped (λ list. list ≡ []) 0 lists (λ i low high. empty i (get_or lists i []) (subst (λ (l : List Entry). IsAhead cmp root l i (get_or lists i [])) is (beats i high)))
  where
    empty : (i : ℕ) (list : List Entry) → IsAhead cmp root [] i list → list ≡ []
    empty i [] h = refl
    empty i (f ∷ fs) h = absurd h

module _ (cmp : List ℕ → List ℕ → Ordering) (total : IsTotalOrder cmp) (lists : List (List Entry)) (winners : List ℕ) (t : IsTournament cmp lists winners) where
  root_list : (place : ℕ) (list : List Entry) → place ≡ get_or winners 1 0 → slice_get lists place ≡ Some list → get_or lists (get_or winners 1 0) [] ≡ list
  root_list place list is here = ap (λ n. get_or lists n []) (sym is) ∙ get_or_from_slice_get lists place list [] here

  pub nothing_next : length winners ≤ 1 → IsMerging cmp lists None
  nothing_next few =
      let size : length winners ≡ length lists + length lists = t.bracket.size in
      record { ordered = t.ordered; least = subst (AllByRecursion (λ list. list ≡ [])) (sym (nil_from_length lists (omega arith))) tt }

  pub none_next : (place : ℕ) (list : List Entry) → place ≡ get_or winners 1 0 → slice_get lists place ≡ Some list → length list ≡ 0 → IsMerging cmp lists None
  none_next place list is here none =
      record { ordered = t.ordered; least = none_of cmp lists (get_or winners 1 0) (root_list place list is here ∙ nil_from_length list none) (root_beats cmp total lists winners t) }

  pub one_next : (place : ℕ) (list : List Entry) → place ≡ get_or winners 1 0 → slice_get lists place ≡ Some list → 0 < length list → IsMerging cmp lists (Some place)
  one_next place [] is here some = absurd (omega arith)
  one_next place (e ∷ es) is here some =
      let within : place < length lists = slice_get_within lists place (e ∷ es) here in
      record {
        ordered = t.ordered;
        least = subst (IsLeast cmp lists) (sym is)
            (least_of cmp lists (get_or winners 1 0) e es (subst (λ n. n < length lists) is within) (root_list place (e ∷ es) is here) (root_beats cmp total lists winners t));
      }

  -- if an entry is to come, there is a root, and the list there has it
  pub has_root : 0 < length (merged cmp lists) → 1 < length winners
  has_root some = ⊎_elim (λ few. absurd (none_without_least cmp lists (nothing_next (omega (arith, few))) some)) (λ more. omega (arith, more)) (cases_lt (length winners) 2)

  pub root_has : (place : ℕ) (list : List Entry) → place ≡ get_or winners 1 0 → slice_get lists place ≡ Some list → 0 < length (merged cmp lists) → 0 < length list
  root_has place [] is here some = absurd (none_without_least cmp lists (none_next place [] is here refl) some)
  root_has place (e ∷ es) is here some = omega arith

-- ---- the list at one place loses an entry

all_set : (P : List Entry → Type 0) (lists : List (List Entry)) (place : ℕ) (list : List Entry) → AllByRecursion P lists → P list → AllByRecursion P (set lists place list)
all_set P [] place list h k = tt
all_set P (l ∷ ls) zero list h k = (k, h.1)
all_set P (l ∷ ls) (suc place) list h k = (h.0, all_set P ls place list h.1 k)

pub ordered_behind : (cmp : List ℕ → List ℕ → Ordering) (lists : List (List Entry)) (place : ℕ) (list other : List Entry) → AllByRecursion (NeverFalls cmp) lists → slice_get lists place ≡ Some list → other ≡ drop 1 list → AllByRecursion (NeverFalls cmp) (set lists place other)
ordered_behind cmp lists place list other ordered here is =
    all_set (NeverFalls cmp) lists place other ordered (subst (NeverFalls cmp) (sym is) (never_falls_drop cmp 1 list (one_of (NeverFalls cmp) lists place list ordered here)))

-- ---- the bracket is made

-- a bracket with its first `place` leaves
pub record IsBegun (number place : ℕ) (winners : List ℕ) : Type 0 where
  pub size : length winners ≡ number + place
  pub within : (node : ℕ) → node < length winners → get_or winners node 0 < number
  pub leaves : (leaf : ℕ) → leaf < place → get_or winners (number + leaf) 0 ≡ leaf

pub begun : (number : ℕ) → IsBegun number 0 (replicate number 0)
begun number =
    let size : length {A = ℕ} (replicate number 0) ≡ number = length-replicate {A = ℕ} number 0 in
    record {
      size = omega (arith, size);
      within = λ node high.
          let inner : node < number = omega (arith, size, high) in
          let none : get_or {A = ℕ} (replicate number 0) node 0 ≡ 0 = get_or-replicate {A = ℕ} number node 0 0 inner in
          subst (λ n. n < number) (sym none) (omega (arith, inner));
      leaves = λ leaf low. absurd (omega (arith, low));
    }

pub begun_next : (number place : ℕ) (winners : List ℕ) → place < number → IsBegun number place winners → IsBegun number (place + 1) (winners ++ place ∷ [])
begun_next number place winners low b = record {
  size = omega (arith, length_push winners place, b.size);
  within = λ node high. at node (omega (arith, length_push winners place, high)) (cases_eq node (length winners));
  leaves = λ leaf high. of leaf high (cases_eq leaf place);
}
  where
    at : (node : ℕ) → node < length winners + 1 → (node ≡ length winners) ⊎ (node ≢ length winners) → get_or (winners ++ place ∷ []) node 0 < number
    at node high (inl is) = subst (λ n. n < number) (sym (ap (λ n. get_or (winners ++ place ∷ []) n 0) is ∙ get_or-append_seam winners place [] 0)) low
    at node high (inr apart) =
        let inner : node < length winners = omega arith in
        subst (λ n. n < number) (sym (get_or-append winners (place ∷ []) 0 node inner)) (b.within node inner)

    of : (leaf : ℕ) → leaf < place + 1 → (leaf ≡ place) ⊎ (leaf ≢ place) → get_or (winners ++ place ∷ []) (number + leaf) 0 ≡ leaf
    of leaf high (inl is) =
        let end : number + leaf ≡ length winners = omega (arith, b.size, is) in
        ap (λ n. get_or (winners ++ place ∷ []) n 0) end ∙ get_or-append_seam winners place [] 0 ∙ sym is
    of leaf high (inr apart) =
        let inner : number + leaf < length winners = omega (arith, b.size, high) in
        get_or-append winners (place ∷ []) 0 (number + leaf) inner ∙ b.leaves leaf (omega arith)

pub begun_all : (number place : ℕ) (winners : List ℕ) → IsBegun number place winners → place ≡ number → IsBracket number winners
begun_all number place winners b all = record { size = b.size ∙ ap (λ n. number + n) all; within = b.within; leaves = λ leaf low. b.leaves leaf (omega arith) }

-- ---- the loops

-- only what is above a node is left to be played
pub record IsOnPath (cmp : List ℕ → List ℕ → Ordering) (lists : List (List Entry)) (number : ℕ) (winners : List ℕ) (node : ℕ) : Type 0 where
  pub bracket : IsBracket number winners
  pub others : IsPlayed cmp lists winners (λ k. IsAbove k node)
  pub low : node < number + number

-- the match of the two that are below one node
pub beside_wins : (cmp : List ℕ → List ℕ → Ordering) (lists : List (List Entry)) (winners : List ℕ) (node beside best other winner : ℕ) → AreBeside node beside → best ≡ get_or winners node 0 → other ≡ get_or winners beside 0 → IsWinner cmp lists best other winner
    → IsWinner cmp lists (get_or winners (2 * (node / 2)) 0) (get_or winners (2 * (node / 2) + 1) 0) winner
beside_wins cmp lists winners node beside best other winner (inl is) here there wins =
    winner_at cmp lists best _ other _ winner _ (ap (λ n. get_or winners n 0) (sym is.0) ∙ sym here) (ap (λ n. get_or winners n 0) (sym is.1) ∙ sym there) refl wins
beside_wins cmp lists winners node beside best other winner (inr is) here there wins =
    let turned : IsWinner cmp lists other best winner = record { either = ⊎_elim (λ e. inr e) (λ e. inl e) wins.either; over_one = wins.over_other; over_other = wins.over_one } in
    winner_at cmp lists other _ best _ winner _ (ap (λ n. get_or winners n 0) (sym is.1) ∙ sym there) (ap (λ n. get_or winners n 0) (sym is.0) ∙ sym here) refl turned

pub beside_within : (number node beside : ℕ) → AreBeside node beside → 1 < node → node < number + number → beside < number + number
beside_within number node beside (inl is) some high = omega (arith, is.0, is.1)
beside_within number node beside (inr is) some high = omega (arith, is.0, is.1)

-- one more match on the path, of the winner so far and the node beside it
pub path_next : (cmp : List ℕ → List ℕ → Ordering) (lists : List (List Entry)) (number : ℕ) (winners : List ℕ) (node beside best other winner : ℕ) → length lists ≡ number → IsOnPath cmp lists number winners node → 1 < node → AreBeside node beside
    → best ≡ get_or winners node 0 → other ≡ get_or winners beside 0 → IsWinner cmp lists best other winner → IsOnPath cmp lists number (set winners (node / 2) winner) (node / 2)
path_next cmp lists number winners node beside best other winner count before above are here there wins =
    let size : length winners ≡ number + number = before.bracket.size in
    let some : 0 < node / 2 = omega (arith, above) in
    let inner : node / 2 < number = omega (arith, before.low) in
    let high : beside < number + number = beside_within number node beside are above before.low in
    let best_low : best < number = subst (λ n. n < number) (sym here) (before.bracket.within node (omega (arith, size, before.low))) in
    let other_low : other < number = subst (λ n. n < number) (sym there) (before.bracket.within beside (omega (arith, size, high))) in
    let low : winner < number = winner_within cmp lists best other winner number wins best_low other_low in
    let match : IsMatch cmp lists winners (node / 2) (set winners (node / 2) winner) =
    record { winner = winner; wins = beside_wins cmp lists winners node beside best other winner are here there wins; noted = refl } in
    record {
      bracket = bracket_next number winners (node / 2) winner before.bracket some inner low;
      others = played_up cmp lists number winners (set winners (node / 2) winner) node count before.bracket before.others some inner match;
      low = omega (arith, before.low);
    }

-- all from a node on is played
pub record IsPlayedFrom (cmp : List ℕ → List ℕ → Ordering) (lists : List (List Entry)) (number : ℕ) (winners : List ℕ) (node : ℕ) : Type 0 where
  pub bracket : IsBracket number winners
  pub others : IsPlayed cmp lists winners (λ k. k < node)
  pub low : node ≤ number

pub all_take_next : (P : List Entry → Type 0) (lists : List (List Entry)) (place : ℕ) (list : List Entry) → AllByRecursion P (take place lists) → slice_get lists place ≡ Some list → P list → AllByRecursion P (take (place + 1) lists)
all_take_next P lists place list all here more = subst (AllByRecursion P) (sym (take_next lists place list here)) (all_append P (take place lists) (list ∷ []) all (more, tt))

-- ---- one cursor goes on

same_number : {X : Type 0} (cursors changed : List X) (place : ℕ) (after : X) → changed ≡ set cursors place after → length changed ≡ length cursors
same_number cursors changed place after is = ap length is ∙ length-set cursors place after

pub bracket_on : {X : Type 0} (cmp : List ℕ → List ℕ → Ordering) (remaining : X → List Entry) (cursors changed : List X) (place : ℕ) (after : X) → changed ≡ set cursors place after → (winners lent : List ℕ) → lent ≡ winners → IsTournament cmp (map remaining cursors) winners → IsBracket (length changed) lent
bracket_on cmp remaining cursors changed place after changed_is winners lent is t =
    subst (IsBracket (length changed)) (sym is) (subst (λ n. IsBracket n winners) (length-map cursors remaining ∙ sym (same_number cursors changed place after changed_is)) t.bracket)

pub path_on : {X : Type 0} (cmp : List ℕ → List ℕ → Ordering) (remaining : X → List Entry) (cursors changed : List X) (place : ℕ) (after : X) → changed ≡ set cursors place after → (winners lent : List ℕ) → lent ≡ winners → IsTournament cmp (map remaining cursors) winners
    → IsPlayed cmp (map remaining changed) lent (λ node. IsAbove node (length changed + place))
path_on cmp remaining cursors changed place after changed_is winners lent is t =
    let count : length (map remaining cursors) ≡ length changed = length-map cursors remaining ∙ sym (same_number cursors changed place after changed_is) in
    let again : length (map remaining changed) ≡ length changed = length-map changed remaining in
    let lists : map remaining changed ≡ set (map remaining cursors) place (remaining after) = ap (map remaining) changed_is ∙ map-set remaining cursors place after in
    subst (λ (ws : List ℕ). IsPlayed cmp (map remaining changed) ws (λ node. IsAbove node (length changed + place))) (sym is)
    (path_left cmp (map remaining cursors) (map remaining changed) winners (length changed) place count again
    (λ other apart. ap (λ (ls : List (List Entry)). get_or ls other []) lists ∙ get_or-set_other (map remaining cursors) place other (remaining after) [] apart)
    (subst (λ n. IsBracket n winners) count t.bracket) t.matches)

pub tournament_on : {X : Type 0} (cmp : List ℕ → List ℕ → Ordering) (remaining : X → List Entry) (cursors changed : List X) (place : ℕ) (after : X) → changed ≡ set cursors place after → (played : List ℕ) (list : List Entry) → AllByRecursion (NeverFalls cmp) (map remaining cursors)
    → slice_get (map remaining cursors) place ≡ Some list → remaining after ≡ drop 1 list → IsBracket (length changed) played → IsPlayed cmp (map remaining changed) played (λ node. ⊥) → IsTournament cmp (map remaining (set cursors place after)) played
tournament_on {X} cmp remaining cursors changed place after changed_is played list ordered here is bracket matches = record {
  ordered = subst (AllByRecursion (NeverFalls cmp)) (sym (map-set remaining cursors place after)) (ordered_behind cmp (map remaining cursors) place list (remaining after) ordered here is);
  bracket = subst (λ n. IsBracket n played) (ap length changed_is ∙ sym (length-map (set cursors place after) remaining)) bracket;
  matches = subst (λ (xs : List X). IsPlayed cmp (map remaining xs) played (λ node. ⊥)) changed_is matches;
}
