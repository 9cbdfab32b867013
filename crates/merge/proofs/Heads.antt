-- Heads of first keys: they decide a match if they differ.
use Rattle.std.proofs.Common.{◌≡◌, ◌≢◌, ◌⊎◌, ℕ, ◌+◌, ◌-◌, ◌^◌, ◌<◌, ◌≤◌, Bool, true, false, cond, List, [], ◌∷◌, length, map, get_or, set, Some, inl, inr, ⊎_elim, refl, sym, ap, subst, ◌∙◌, arith, length-set, get_or-set_same, get_or-set_other}
use Rattle.std.specs.Prelude.{slice_get, nat_eq}
use Rattle.std.specs.Option.{option_map}
use Rattle.std.specs.Cmp.{IsTotalOrder}
use Rattle.std.specs.declared.cmp.Ordering.{Ordering}
use Rattle.std.proofs.lemmas.Bool.{cases_eq, eqb-true, eqb-false}
use Rattle.std.proofs.lemmas.List.{length-map, map-set}
use Rattle.std.proofs.lemmas.Option.{same_Some, none-some}
use Rattle.table.specs.EncodedEntry.{Entry}
use Rattle.table.specs.Comparator.{HeadsRise}
use Rattle.table.specs.Key.{user_of}
use Rattle.merge.specs.Tournament.{IsAhead, IsWinner, first_head, AreHeads}
use Rattle.merge.proofs.Tournaments.{ahead_same}
use Rattle.ikey.proofs.Shortened.{internal_cmp-Less}

-- ---- matches

-- the list with the lower head is ahead
ahead_by_head : (cmp : List ℕ → List ℕ → Ordering) (head_of : List ℕ → ℕ) → HeadsRise cmp head_of → (place other : ℕ) (list more : List Entry) → first_head head_of list < first_head head_of more → first_head head_of more < 2 ^ 128
    → IsAhead cmp place list other more
ahead_by_head cmp head_of rising place other list [] less fits = tt
ahead_by_head cmp head_of rising place other [] (f ∷ fs) less fits = absurd (omega (arith, less, fits))
ahead_by_head cmp head_of rising place other (e ∷ es) (f ∷ fs) less fits =
    inl (internal_cmp-Less cmp e.key f.key (rising (user_of e.key) (user_of f.key) less))

module _ (cmp : List ℕ → List ℕ → Ordering) (total : IsTotalOrder cmp) (head_of : List ℕ → ℕ) (rising : HeadsRise cmp head_of) (lists : List (List Entry)) (best other best_head head : ℕ) (best_is : best_head ≡ first_head head_of (get_or lists best []))
    (is : head ≡ first_head head_of (get_or lists other [])) where
  pub lower_head_wins : head < best_head → best_head < 2 ^ 128 → IsWinner cmp lists best other other
  lower_head_wins less fits = record {
    either = inr refl;
    over_one = ahead_by_head cmp head_of rising other best (get_or lists other []) (get_or lists best []) (omega (arith, is, best_is, less)) (omega (arith, best_is, fits));
    over_other = ahead_same cmp total other (get_or lists other []);
  }

  pub higher_head_loses : best_head < head → head < 2 ^ 128 → IsWinner cmp lists best other best
  higher_head_loses less fits = record {
    either = inl refl;
    over_one = ahead_same cmp total best (get_or lists best []);
    over_other = ahead_by_head cmp head_of rising best other (get_or lists best []) (get_or lists other []) (omega (arith, is, best_is, less)) (omega (arith, is, fits));
  }

-- the winner of two is the other one, or the best
pub one_of_two : (cmp : List ℕ → List ℕ → Ordering) (lists : List (List Entry)) (best other winner : ℕ) (b : Bool) → nat_eq winner other ≡ b → IsWinner cmp lists best other winner → IsWinner cmp lists best other (cond b other best)
one_of_two cmp lists best other winner true e wins = subst (λ n. IsWinner cmp lists best other n) (eqb-true winner other e) wins
one_of_two cmp lists best other winner false e wins =
    ⊎_elim (λ is. subst (λ n. IsWinner cmp lists best other n) is wins) (λ is. absurd (eqb-false winner other e is)) wins.either

-- ---- the head of a cursor's first key

pub head_of_first : (head_of : List ℕ → ℕ) (list : List Entry) (key : List ℕ) (head : ℕ) → option_map (λ e. e.key) (slice_get list 0) ≡ Some key → head ≡ head_of (user_of key) → head ≡ first_head head_of list
head_of_first head_of [] key head first is = absurd (none-some key first)
head_of_first head_of (e ∷ es) key head first is = is ∙ ap (λ (k : List ℕ). head_of (user_of k)) (sym (same_Some e.key key first))

pub head_of_none : (head_of : List ℕ → ℕ) (list : List Entry) → length list ≡ 0 → 2 ^ 128 - 1 ≡ first_head head_of list
head_of_none head_of [] h = refl
head_of_none head_of (e ∷ es) h = absurd (omega (arith, h))

-- ---- heads in a list

-- the heads of the first lists are noted
pub record AreNoted (head_of : List ℕ → ℕ) (lists : List (List Entry)) (heads : List ℕ) (place : ℕ) : Type 0 where
  pub size : length heads ≡ length lists
  pub each : (k : ℕ) → k < place → get_or heads k 0 ≡ first_head head_of (get_or lists k [])

pub none_noted : (head_of : List ℕ → ℕ) (lists : List (List Entry)) (heads : List ℕ) → length heads ≡ length lists → AreNoted head_of lists heads 0
none_noted head_of lists heads size = record { size = size; each = λ k low. absurd (omega (arith, low)) }

pub noted_next : (head_of : List ℕ → ℕ) (lists : List (List Entry)) (heads : List ℕ) (place head : ℕ) → AreNoted head_of lists heads place → place < length lists → head ≡ first_head head_of (get_or lists place []) → AreNoted head_of lists (set heads place head) (place + 1)
noted_next head_of lists heads place head before within is = record {
  size = length-set heads place head ∙ before.size;
  each = λ k low. at k low (cases_eq k place);
}
  where
    at : (k : ℕ) → k < place + 1 → (k ≡ place) ⊎ (k ≢ place) → get_or (set heads place head) k 0 ≡ first_head head_of (get_or lists k [])
    at k low (inl same) =
        ap (λ n. get_or (set heads place head) n 0) same
        ∙ get_or-set_same heads place head 0 (omega (arith, within, before.size))
        ∙ is ∙ ap (λ n. first_head head_of (get_or lists n [])) (sym same)
    at k low (inr apart) = get_or-set_other heads place k head 0 apart ∙ before.each k (omega arith)

pub all_noted : (head_of : List ℕ → ℕ) (lists : List (List Entry)) (heads : List ℕ) (place : ℕ) → AreNoted head_of lists heads place → length lists ≤ place → AreHeads head_of lists heads
all_noted head_of lists heads place noted all = record { size = noted.size; each = λ k low. noted.each k (omega (arith, low, all)) }

-- one list changes, and its head is noted again
pub heads_on : (head_of : List ℕ → ℕ) (lists : List (List Entry)) (heads : List ℕ) (place head : ℕ) (list : List Entry) → AreHeads head_of lists heads → place < length lists → head ≡ first_head head_of list → AreHeads head_of (set lists place list) (set heads place head)
heads_on head_of lists heads place head list before within is = record {
  size = length-set heads place head ∙ before.size ∙ sym (length-set lists place list);
  each = λ k low. at k (subst (λ n. k < n) (length-set lists place list) low) (cases_eq k place);
}
  where
    at : (k : ℕ) → k < length lists → (k ≡ place) ⊎ (k ≢ place) → get_or (set heads place head) k 0 ≡ first_head head_of (get_or (set lists place list) k [])
    at k low (inl same) =
        ap (λ n. get_or (set heads place head) n 0) same
        ∙ get_or-set_same heads place head 0 (omega (arith, within, before.size))
        ∙ is ∙ ap (first_head head_of) (sym (ap (λ n. get_or (set lists place list) n []) same ∙ get_or-set_same lists place list [] within))
    at k low (inr apart) =
        get_or-set_other heads place k head 0 apart ∙ before.each k low
        ∙ ap (first_head head_of) (sym (get_or-set_other lists place k list [] apart))

pub cursors_on : {X : Type 0} (head_of : List ℕ → ℕ) (remaining : X → List Entry) (cursors : List X) (heads : List ℕ) (place head : ℕ) (after : X) → AreHeads head_of (map remaining cursors) heads → place < length cursors → head ≡ first_head head_of (remaining after)
    → AreHeads head_of (map remaining (set cursors place after)) (set heads place head)
cursors_on head_of remaining cursors heads place head after before within is =
    subst (λ (ls : List (List Entry)). AreHeads head_of ls (set heads place head)) (sym (map-set remaining cursors place after))
    (heads_on head_of (map remaining cursors) heads place head (remaining after) before (omega (arith, within, length-map cursors remaining)) is)
