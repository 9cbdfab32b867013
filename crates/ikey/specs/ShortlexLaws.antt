-- That the order of user keys by length first is a comparator.
use Rattle.std.specs.Prelude.{◌≡◌, ◌≢◌, ℕ, List, length, refl}
use Rattle.std.specs.Ordering.{nat_cmp, ordering_then}
use Rattle.std.specs.Cmp.{IsTotalOrder}
use Rattle.std.specs.Cmp.Lexicographic.{slice_cmp}
use Rattle.std.specs.declared.cmp.Ordering.{Ordering}
use Rattle.std.specs.declared.cmp.Ordering.TheVariants.{Less, Equal, Greater}
use Rattle.std.proofs.Common.{inl, inr, sym, ap, ◌∙◌, arith}
use Rattle.std.proofs.lemmas.Bool.{cases_lt}
use Rattle.std.proofs.lemmas.Cmp.{nat_cmp_total, nat_list_cmp_total, on_total, then_total}
use Rattle.std.proofs.lemmas.Cmp.{tied_itself}
use Rattle.std.proofs.lemmas.Map.Lookups.{exact_bytes}
use Rattle.ikey.specs.Shortlex.{shortlex_cmp, shortlex_separator, shortlex_successor}
use Rattle.ikey.specs.Shortlex.{shortlex_head}
use Rattle.ikey.specs.BytewiseLaws.{nat_less, nat_same, bytewise_rises, bytewise_head-lt}
use Rattle.ikey.specs.Comparator.{IsExact, Separates, Succeeds, HeadsRise}

pub shortlex_total : IsTotalOrder shortlex_cmp
shortlex_total = then_total (on_total length nat_cmp_total) nat_list_cmp_total

-- two comparisons, one after the other, answer Equal only if both do
pub both_equal : (p q : Ordering) → ordering_then p q ≡ Equal → (p ≡ Equal) × (q ≡ Equal)
both_equal Less q e = absurd (cc)
both_equal Equal q e = (refl, e)
both_equal Greater q e = absurd (cc)

pub shortlex_exact : IsExact shortlex_cmp
shortlex_exact a b e =
    exact_bytes a b (both_equal (nat_cmp (length a) (length b)) (slice_cmp nat_cmp a b) e).1

not_above_itself : (a : List ℕ) → shortlex_cmp a a ≢ Greater
not_above_itself a e = let both : Equal ≡ Greater = sym (tied_itself shortlex_total a) ∙ e in cc

pub shortlex_between : Separates shortlex_cmp shortlex_separator
shortlex_between start limit h = record { at_least = not_above_itself start; below = h }

pub shortlex_above : Succeeds shortlex_cmp shortlex_successor
shortlex_above key = not_above_itself key

-- of two heads, the lengths decide first
pub shortlex_rises : HeadsRise shortlex_cmp shortlex_head
unfolding shortlex_head
shortlex_rises a b h =
    let low_a = bytewise_head-lt a in
    let low_b = bytewise_head-lt b in
    elim (cases_lt (length a) (length b)) [
      | inl less ↦
          ap (λ o. ordering_then o (slice_cmp nat_cmp a b)) (nat_less (length a) (length b) less)
      | inr not_less ↦
          let same : length a ≡ length b = omega (arith, h, low_a, low_b, not_less) in
          ap (λ o. ordering_then o (slice_cmp nat_cmp a b)) (nat_same (length a) (length b) same)
          ∙ bytewise_rises a b (omega (arith, h, same))
    ]
