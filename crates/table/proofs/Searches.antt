-- A search over the restarts of a block for an internal key.
use Rattle.std.proofs.Common.{◌≡◌, ℕ, zero, suc, ◌+◌, ◌<◌, ◌≤◌, true, false, cond, List, [], ◌∷◌, length, drop, get_or, Some, None, refl, sym, ap, subst, ◌∙◌, true≢false, ◌-◌, Ok, arith}
use Rattle.std.specs.List.{AllByRecursion, slice_get}
use Rattle.std.specs.List.Sorted.{IsStrictlyIncreasing}
use Rattle.std.specs.Cmp.{IsTotalOrder}
use Rattle.std.specs.Option.{option_map}
use Rattle.std.specs.Ordering.{is_lt}
use Rattle.std.specs.declared.cmp.Ordering.{Ordering}
use Rattle.std.specs.declared.cmp.Ordering.TheVariants.{Less}
use Rattle.std.proofs.lemmas.Option.{get_or_from_slice_get, same_Some}
use Rattle.std.proofs.lemmas.Bool.{false_from_ne_true}
use Rattle.block.specs.EncodedEntry.{Entry}
use Rattle.block.specs.BlockView.{BlockView}
use Rattle.ikey.specs.Order.{internal_cmp}
use Rattle.ikey.proofs.Ordered.{internal_cmp-total, is_lt-true}
use Rattle.table.specs.EntriesFrom.{EntriesRise, entries_from}
use Rattle.table.specs.RestartSearch.{first_is_below, restart_is_below, IsLastBelow}
use Rattle.table.specs.EntryTests.{HaveKeys}
use Rattle.ikey.specs.Key.{internal_key_reading}

-- ---- entries in front of one that is below an internal key

-- the first of rising entries is below what a later one is below
first_below : (cmp : List ℕ → List ℕ → Ordering) (target : List ℕ) (e : Entry) (es : List Entry) (place : ℕ) → IsTotalOrder cmp → AllByRecursion (λ f. internal_cmp cmp e.key f.key ≡ Less) es → first_is_below cmp target (drop place es) ≡ true → internal_cmp cmp e.key target ≡ Less
first_below cmp target e [] zero total above below = absurd cc
first_below cmp target e [] (suc place) total above below = absurd cc
first_below cmp target e (f ∷ es) zero total above below = (internal_cmp-total total).trans e.key f.key target above.0 (is_lt-true (internal_cmp cmp f.key target) below)
first_below cmp target e (f ∷ es) (suc place) total above below = first_below cmp target e es place total above.1 below

-- so is each that stands before it
pub before_below : (cmp : List ℕ → List ℕ → Ordering) (target : List ℕ) (es : List Entry) (place later : ℕ) → IsTotalOrder cmp → EntriesRise cmp es → place ≤ later → first_is_below cmp target (drop later es) ≡ true → first_is_below cmp target (drop place es) ≡ true
before_below cmp target es zero zero total rises le below = below
before_below cmp target es (suc place) zero total rises le below = absurd (omega arith)
before_below cmp target [] place (suc later) total rises le below = absurd cc
before_below cmp target (e ∷ es) zero (suc later) total rises le below = ap is_lt (first_below cmp target e es later total rises.0 below)
before_below cmp target (e ∷ es) (suc place) (suc later) total rises le below = before_below cmp target es place later total rises.1 (omega arith) below

-- a walk that begins at an entry below an internal key comes to the same entries
pub from_place : (cmp : List ℕ → List ℕ → Ordering) (target : List ℕ) (es : List Entry) (place : ℕ) → IsTotalOrder cmp → EntriesRise cmp es → first_is_below cmp target (drop place es) ≡ true → entries_from cmp target (drop place es) ≡ entries_from cmp target es
from_place cmp target es zero total rises below = refl
from_place cmp target [] (suc place) total rises below = refl
from_place cmp target (e ∷ es) (suc place) total rises below =
    from_place cmp target es place total rises.1 below
    ∙ sym (ap (λ (o : Ordering). cond (is_lt o) (entries_from cmp target es) (e ∷ es)) (first_below cmp target e es place total rises.0 below))

-- ---- the entry at a restart

pub none_at : (cmp : List ℕ → List ℕ → Ordering) (target : List ℕ) (es : List Entry) (place : ℕ) → option_map (λ e. e.key) (slice_get es place) ≡ None → first_is_below cmp target (drop place es) ≡ false
none_at cmp target [] zero h = refl
none_at cmp target [] (suc place) h = refl
none_at cmp target (e ∷ es) zero h = absurd cc
none_at cmp target (e ∷ es) (suc place) h = none_at cmp target es place h

pub key_there : (cmp : List ℕ → List ℕ → Ordering) (target : List ℕ) (es : List Entry) (place : ℕ) (key : List ℕ) → option_map (λ e. e.key) (slice_get es place) ≡ Some key → is_lt (internal_cmp cmp key target) ≡ first_is_below cmp target (drop place es)
key_there cmp target [] zero key h = absurd cc
key_there cmp target [] (suc place) key h = absurd cc
key_there cmp target (e ∷ es) zero key h = ap (λ (k : List ℕ). is_lt (internal_cmp cmp k target)) (sym (same_Some e.key key h))
key_there cmp target (e ∷ es) (suc place) key h = key_there cmp target es place key h

pub key_reads : (es : List Entry) (place : ℕ) (key : List ℕ) → HaveKeys es → option_map (λ e. e.key) (slice_get es place) ≡ Some key → internal_key_reading key ≡ Ok key
key_reads [] zero key keys h = absurd cc
key_reads [] (suc place) key keys h = absurd cc
key_reads (e ∷ es) zero key keys h = subst (λ (k : List ℕ). internal_key_reading k ≡ Ok k) (same_Some e.key key h) keys.0
key_reads (e ∷ es) (suc place) key keys h = key_reads es place key keys.1 h

-- ---- halving

-- What is known of restarts between two: the first of them is the first of all or has its key below an internal key, and
-- from the other on no key is below it.
pub record IsWithin (cmp : List ℕ → List ℕ → Ordering) (target : List ℕ) (block : BlockView) (restart end : ℕ) : Type 0 where
  pub order : restart < end
  pub within : end ≤ length block.restarts
  pub below : 0 < restart → restart_is_below cmp target block restart ≡ true
  pub last : (later : ℕ) → end ≤ later → later < length block.restarts → restart_is_below cmp target block later ≡ false

pub search_begins : (cmp : List ℕ → List ℕ → Ordering) (target : List ℕ) (block : BlockView) (count : ℕ) → count ≡ length block.restarts → 0 < count → IsWithin cmp target block 0 count
search_begins cmp target block count same some = record { order = some; within = omega (arith, same); below = λ h. absurd (omega arith); last = λ later le lt. absurd (omega (arith, same)) }

pub search_rises : (cmp : List ℕ → List ℕ → Ordering) (target : List ℕ) (block : BlockView) (restart end middle : ℕ) → IsWithin cmp target block restart end → middle < end → restart_is_below cmp target block middle ≡ true → IsWithin cmp target block middle end
search_rises cmp target block restart end middle w lt below = record { order = lt; within = w.within; below = λ h. below; last = w.last }

-- restarts point at rising places
rises_to : (places : List ℕ) (i j : ℕ) → IsStrictlyIncreasing places → i + j < length places → get_or places i 0 ≤ get_or places (i + j) 0
rises_to places i zero rises lt =
    let e : i + zero ≡ i = omega arith in
    rw e (omega arith)
rises_to places i (suc j) rises lt =
    let e : i + suc j ≡ (i + j) + 1 = omega arith in
    let step : get_or places (i + j) 0 < get_or places ((i + j) + 1) 0 = rises (i + j) (omega arith) in
    let before : get_or places i 0 ≤ get_or places (i + j) 0 = rises_to places i j rises (omega arith) in
    rw e (omega (arith, before, step))

places_rise : (places : List ℕ) (i j : ℕ) → IsStrictlyIncreasing places → i ≤ j → j < length places → get_or places i 0 ≤ get_or places j 0
places_rise places i j rises le lt =
    let e : i + (j - i) ≡ j = omega arith in
    subst (λ (n : ℕ). get_or places i 0 ≤ get_or places n 0) e (rises_to places i (j - i) rises (omega arith))

pub search_falls : (cmp : List ℕ → List ℕ → Ordering) (target : List ℕ) (block : BlockView) (restart end middle : ℕ) → IsTotalOrder cmp → EntriesRise cmp block.entries → IsStrictlyIncreasing block.restarts
    → IsWithin cmp target block restart end → restart < middle → middle < end → restart_is_below cmp target block middle ≡ false → IsWithin cmp target block restart middle
search_falls cmp target block restart end middle total rises places w order lt above = record {
  order = order;
  within = omega (arith, w.within);
  below = w.below;
  last = λ later le within. false_from_ne_true (restart_is_below cmp target block later) (λ below. true≢false
      (sym (before_below cmp target block.entries (get_or block.restarts middle 0) (get_or block.restarts later 0) total rises (places_rise block.restarts middle later places le within) below) ∙ above));
}

-- between two neighbours it is the first
pub search_ends : (cmp : List ℕ → List ℕ → Ordering) (target : List ℕ) (block : BlockView) (restart end : ℕ) → IsWithin cmp target block restart end → end ≤ restart + 1 → IsLastBelow cmp target block restart
search_ends cmp target block restart end w le = record { within = omega (arith, w.order, w.within); below = w.below; last = λ later above within. w.last later (omega (arith, le)) within }

-- what stands before it is below the internal key
pub last_from : (cmp : List ℕ → List ℕ → Ordering) (target : List ℕ) (block : BlockView) (restart : ℕ) → IsTotalOrder cmp → EntriesRise cmp block.entries → slice_get block.restarts 0 ≡ Some 0 → IsLastBelow cmp target block restart
    → entries_from cmp target (drop (get_or block.restarts restart 0) block.entries) ≡ entries_from cmp target block.entries
last_from cmp target block zero total rises first last = ap (λ (place : ℕ). entries_from cmp target (drop place block.entries)) (get_or_from_slice_get block.restarts 0 0 0 first)
last_from cmp target block (suc restart) total rises first last = from_place cmp target block.entries (get_or block.restarts (suc restart) 0) total rises (last.below (omega arith))
