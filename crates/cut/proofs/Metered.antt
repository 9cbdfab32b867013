-- One more entry is measured.
use Rattle.std.proofs.Common.{◌≡◌, ℕ, ◌+◌, ◌-◌, ◌%◌, ◌^◌, ◌<◌, ◌≤◌, Bool, true, false, cond, eqb, List, [], ◌∷◌, ◌++◌, length, take, min, refl, sym, ap, subst, ◌∙◌, inl, inr, arith}
use Rattle.std.specs.Prelude.{Option, Some, None, slice_get, ◌&&◌}
use Rattle.std.specs.List.{last_or}
use Rattle.std.specs.Option.{option_map}
use Rattle.std.proofs.lemmas.Bool.{cases_eq, eq-eqb, ne_eqb}
use Rattle.std.proofs.lemmas.Option.{none-some, same_Some}
use Rattle.std.proofs.lemmas.List.{length-append, length-drop, length_push}
use Rattle.std.proofs.lemmas.Nat.{mod_below}
use Rattle.std.proofs.Math.Nat.{zero-mod, mod-add-mod, mod_self, mod-eq_of_lt}
use Rattle.coding.specs.Varint.{varint}
use Rattle.coding.specs.Saturated.{saturated}
use Rattle.block.specs.EncodedEntry.{Entry, EncodedEntry, encoded_entry_bytes}
use Rattle.block.specs.BlockFormat.{block}
use Rattle.block.specs.BuilderView.{last_key}
use Rattle.block.proofs.Written.{common, piece_at_restart}
use Rattle.cut.specs.Lengths.{added_len}
use Rattle.keep.specs.Sizes.{encoded_entry_size}
use Rattle.cut.specs.BlockInProgress.{IsMetered, last_entry_key, next_since, added_size}
use Rattle.cut.proofs.MeteredLengths.{lengths_law}

-- ---- what an entry adds

pub length-piece : (p : EncodedEntry) → length (encoded_entry_bytes p) ≡ encoded_entry_size p.shared (length p.unshared) (length p.value)
length-piece p =
    omega (
      arith,
      length-append (varint p.shared) (varint (length p.unshared) ++ (varint (length p.value) ++ (p.unshared ++ p.value))),
      length-append (varint (length p.unshared)) (varint (length p.value) ++ (p.unshared ++ p.value)),
      length-append (varint (length p.value)) (p.unshared ++ p.value),
      length-append p.unshared p.value,
    )

-- by whether a restart points at it, if an entry stands before it
added_by : (restart : Bool) (before : List ℕ) (e : Entry) → length (encoded_entry_bytes (piece_at_restart restart before e)) + cond restart 4 0
    ≡ encoded_entry_size (cond restart 0 (common before e.key)) (length e.key - cond restart 0 (common before e.key)) (length e.value) + cond (restart && true) 4 0
added_by true before e =
    let whole : length e.key - 0 ≡ length e.key = omega arith in
    ap (λ (n : ℕ). n + 4) (length-piece (piece_at_restart true before e) ∙ ap (λ (n : ℕ). encoded_entry_size 0 n (length e.value)) (sym whole))
added_by false before e =
    ap (λ (n : ℕ). n + 0) (length-piece (piece_at_restart false before e) ∙ ap (λ (n : ℕ). encoded_entry_size (common before e.key) n (length e.value)) (length-drop (common before e.key) e.key))

added_first : (since : ℕ) (e : Entry) → since ≡ 0 → length (encoded_entry_bytes (piece_at_restart (eqb since 0) [] e)) + 0 ≡ added_size since None e.key (length e.value)
added_first since e none =
    let whole : length e.key - 0 ≡ length e.key = omega arith in
    rw none (ap (λ (n : ℕ). n + 0) (length-piece (piece_at_restart true [] e) ∙ ap (λ (n : ℕ). encoded_entry_size 0 n (length e.value)) (sym whole)))

pub ended_is : (x : Entry) (xs : List Entry) → option_map (λ (e : Entry). e.key) (last_or (Some x) xs) ≡ Some (last_key x.key xs)
ended_is x [] = refl
ended_is x (y ∷ ys) = ended_is y ys

added_is : (interval : ℕ) (q : List Entry) (e : Entry) → added_len interval q e ≡ added_size (length q % interval) (last_entry_key q) e.key (length e.value)
added_is interval [] e = added_first (0 % interval) e (zero-mod interval)
added_is interval (x ∷ xs) e =
    let since = length (x ∷ xs) % interval in
    added_by (eqb since 0) (last_key x.key xs) e ∙ ap (λ (before : Option (List ℕ)). added_size since before e.key (length e.value)) (sym (ended_is x xs))

-- ---- the places of restarts

next_since-mod : (r n : ℕ) → 1 ≤ r → next_since r (n % r) ≡ (n + 1) % r
next_since-mod r n pos =
    let below : n % r < r = mod_below n r pos in
    elim (cases_eq (n % r + 1) r) [
      | inl same ↦ rw (eq-eqb (n % r + 1) r same) (sym (mod_self r) ∙ ap (λ (k : ℕ). k % r) (sym same) ∙ mod-add-mod n r 1)
      | inr other ↦ rw (ne_eqb (n % r + 1) r other) (let lt : n % r + 1 < r = omega arith in sym (mod-eq_of_lt lt) ∙ mod-add-mod n r 1)
    ]

-- ---- one more entry

pub metered_first : (interval : ℕ) → 1 ≤ interval → interval ≤ 1024 → IsMetered interval [] 8 0
metered_first interval pos le = record {
  positive = pos;
  limited = le;
  len_is = omega (arith, lengths_law.none interval);
  since_is = sym (zero-mod interval);
  counted = omega arith;
}

-- both sums stop at the largest number
sum_saturated : (whole before added : ℕ) → whole ≡ before + added → min (saturated before + saturated added) (2 ^ 64 - 1) ≡ saturated whole
sum_saturated whole before added is = omega arith

pushed : (interval : ℕ) (q : List Entry) (e : Entry) (len since : ℕ) → IsMetered interval q len since → length q < 2 ^ 64 - 1
    → IsMetered interval (q ++ e ∷ []) (min (len + saturated (added_size since (last_entry_key q) e.key (length e.value))) (2 ^ 64 - 1)) (next_since interval since)
pushed interval q e len since h few =
    let added : added_size since (last_entry_key q) e.key (length e.value) ≡ added_len interval q e =
    ap (λ (n : ℕ). added_size n (last_entry_key q) e.key (length e.value)) h.since_is ∙ sym (added_is interval q e) in
    record {
      positive = h.positive;
      limited = h.limited;
      len_is =
          ap (λ (n : ℕ). min (n + saturated (added_size since (last_entry_key q) e.key (length e.value))) (2 ^ 64 - 1)) h.len_is
          ∙ sum_saturated (length (block interval (q ++ e ∷ []))) (length (block interval q)) (added_size since (last_entry_key q) e.key (length e.value)) (lengths_law.more interval q e ∙ ap (λ (n : ℕ). length (block interval q) + n) (sym added));
      since_is = ap (next_since interval) h.since_is ∙ next_since-mod interval (length q) h.positive ∙ ap (λ (n : ℕ). n % interval) (sym (length_push q e));
      counted = omega (arith, few, length_push q e);
    }

-- the first of the entries after is taken in, which adds so much
pub metered_push : (interval : ℕ) (q behind : List Entry) (len since added : ℕ) (before : Option (List ℕ)) → IsMetered interval q len since → length q < 2 ^ 64 - 1
    → option_map (λ (e : Entry). saturated (added_size since before e.key (length e.value))) (slice_get behind 0) ≡ Some added → before ≡ last_entry_key q
    → IsMetered interval (q ++ take 1 behind) (min (len + added) (2 ^ 64 - 1)) (next_since interval since)
metered_push interval q [] len since added before h few added_is before_is = absurd (none-some added added_is)
metered_push interval q (e ∷ es) len since added before h few added_is before_is =
    let is : saturated (added_size since (last_entry_key q) e.key (length e.value)) ≡ added =
    ap (λ (b : Option (List ℕ)). saturated (added_size since b e.key (length e.value))) (sym before_is) ∙ same_Some _ added added_is in
    subst (λ (n : ℕ). IsMetered interval (q ++ e ∷ []) (min (len + n) (2 ^ 64 - 1)) (next_since interval since)) is (pushed interval q e len since h few)

pub since_below : (interval : ℕ) (q : List Entry) (len since : ℕ) → IsMetered interval q len since → since < interval
since_below interval q len since h = omega (arith, h.since_is, mod_below (length q) interval h.positive)
