-- The order of internal keys.
use Rattle.std.proofs.Common.{◌≡◌, ◌≢◌, ℕ, ◌/◌, ◌%◌, ◌<◌, true, false, List, refl, sym, ap, ◌∙◌, arith}
use Rattle.std.specs.declared.cmp.Ordering.{Ordering}
use Rattle.std.specs.declared.cmp.Ordering.TheVariants.{Less, Equal, Greater}
use Rattle.std.specs.Ordering.{nat_cmp, is_lt, ordering_then, MatchOrdering}
use Rattle.std.specs.Cmp.{IsTotalOrder, nat_cmp_is, ranked}
use Rattle.std.proofs.lemmas.Cmp.{nat_cmp_total, on_total, back_total, then_total}
use Rattle.std.proofs.lemmas.Map.Lookups.{exact_unsigned}
use Rattle.std.proofs.lemmas.Bool.{both_ways}
use Rattle.ikey.specs.Comparator.{IsExact}
use Rattle.ikey.specs.ShortlexLaws.{both_equal}
use Rattle.ikey.specs.Key.{kind_number, user_of, tag_of, sequence_of, kind_of, IsInternalKey}
use Rattle.ikey.specs.Order.{internal_cmp}
use Rattle.ikey.proofs.Keys.{kind_number-kind_of, same_parts}

-- whether an order answers Less
pub is_lt-true : (o : Ordering) → is_lt o ≡ true → o ≡ Less
is_lt-true Less h = refl
is_lt-true Equal h = absurd cc
is_lt-true Greater h = absurd cc

pub is_lt-false : (o : Ordering) → is_lt o ≡ false → o ≢ Less
is_lt-false o h less = both_ways (is_lt o) h (ap is_lt less)

-- two tags are ordered as their high parts and then their low bytes are
tag_parts : (t u : ℕ) (high low : Ordering) → MatchOrdering high (t / 256 < u / 256) (t / 256 ≡ u / 256) (u / 256 < t / 256) → MatchOrdering low (t % 256 < u % 256) (t % 256 ≡ u % 256) (u % 256 < t % 256) → ordering_then high low ≡ nat_cmp t u
tag_parts t u Less low h l = nat_cmp_is t u Less (omega arith)
tag_parts t u Greater low h l = nat_cmp_is t u Greater (omega arith)
tag_parts t u Equal Less h l = nat_cmp_is t u Less (omega arith)
tag_parts t u Equal Equal h l = nat_cmp_is t u Equal (omega arith)
tag_parts t u Equal Greater h l = nat_cmp_is t u Greater (omega arith)

-- of lawful keys, sequence and type together are ordered as the tags are
pub tags_order : (a b : List ℕ) → tag_of a % 256 < 2 → tag_of b % 256 < 2 → ordering_then (nat_cmp (sequence_of b) (sequence_of a)) (nat_cmp (kind_number (kind_of b)) (kind_number (kind_of a))) ≡ nat_cmp (tag_of b) (tag_of a)
tags_order a b ha hb =
    let t : ℕ = tag_of b in
    let u : ℕ = tag_of a in
    ap (λ n. ordering_then (nat_cmp (t / 256) (u / 256)) (nat_cmp n (kind_number (kind_of a)))) (kind_number-kind_of b hb)
    ∙ ap (λ n. ordering_then (nat_cmp (t / 256) (u / 256)) (nat_cmp (t % 256) n)) (kind_number-kind_of a ha)
    ∙ tag_parts t u (nat_cmp (t / 256) (u / 256)) (nat_cmp (t % 256) (u % 256)) (ranked (t / 256) (u / 256) (nat_cmp (t / 256) (u / 256)) refl) (ranked (t % 256) (u % 256) (nat_cmp (t % 256) (u % 256)) refl)

-- of lawful keys, the order is that of the user keys, and then that of the tags, the larger first
pub internal_cmp-tags : (cmp : List ℕ → List ℕ → Ordering) (a b : List ℕ) → IsInternalKey a → IsInternalKey b → internal_cmp cmp a b ≡ ordering_then (cmp (user_of a) (user_of b)) (nat_cmp (tag_of b) (tag_of a))
unfolding internal_cmp
internal_cmp-tags cmp a b la lb = ap (ordering_then (cmp (user_of a) (user_of b))) (tags_order a b la.typed lb.typed)

-- internal keys are totally ordered if user keys are
pub internal_cmp-total : {cmp : List ℕ → List ℕ → Ordering} → IsTotalOrder cmp → IsTotalOrder (internal_cmp cmp)
unfolding internal_cmp
internal_cmp-total total =
    then_total (on_total user_of total)
    (then_total (back_total (on_total sequence_of nat_cmp_total)) (back_total (on_total (λ bytes. kind_number (kind_of bytes)) nat_cmp_total)))

-- internal keys that are equal in the order are the same bytes
pub internal_cmp-exact : {cmp : List ℕ → List ℕ → Ordering} → IsExact cmp → (a b : List ℕ) → IsInternalKey a → IsInternalKey b → internal_cmp cmp a b ≡ Equal → a ≡ b
internal_cmp-exact {cmp} exact a b la lb e =
    let parts = both_equal (cmp (user_of a) (user_of b)) (nat_cmp (tag_of b) (tag_of a)) (sym (internal_cmp-tags cmp a b la lb) ∙ e) in
    same_parts a b la lb (exact (user_of a) (user_of b) parts.0) (sym (exact_unsigned (tag_of b) (tag_of a) parts.1))
