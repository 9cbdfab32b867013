-- Sums of the lengths of a chunk's entries.
use Rattle.std.proofs.Common.{◌≡◌, ℕ, zero, suc, ◌+◌, ◌-◌, ◌^◌, ◌<◌, List, [], ◌∷◌, ◌++◌, length, take, drop, Some, refl, sym, ap, subst, ◌∙◌, arith}
use Rattle.std.specs.Prelude.{slice_get}
use Rattle.std.proofs.lemmas.Option.{same_Some, none-some}
use Rattle.coding.specs.Saturated.{saturated}
use Rattle.reads.specs.EncodedEntry.{Entry}
use Rattle.reads.specs.BuilderView.{last_key}
use Rattle.keep.specs.Sizes.{later_entry_size, later_entries_size}
use Rattle.keep.specs.KeyBuffer.{next_sums, AreSums, IsNextSum}

-- ---- one more

next_push : (n : ℕ) (before : List ℕ) (es : List Entry) (e : Entry) (s : ℕ) → ((t : ℕ) → slice_get (n ∷ next_sums n before es) (length es) ≡ Some t → s ≡ saturated (t + later_entry_size (last_key before es) e))
    → next_sums n before es ++ s ∷ [] ≡ next_sums n before (es ++ e ∷ [])
next_push n before [] e s is = ap (λ (m : ℕ). m ∷ []) (is n refl)
next_push n before (f ∷ es) e s is =
    let m : ℕ = saturated (n + later_entry_size before f) in
    ap (λ (ms : List ℕ). m ∷ ms) (next_push m f.key es e s is)

pub sums_push : (ns : List ℕ) (es : List Entry) (s : ℕ) (e : Entry) → length ns ≡ length es → AreSums ns es → IsNextSum ns (later_entry_size (last_key [] es) e) s → AreSums (ns ++ s ∷ []) (es ++ e ∷ [])
sums_push [] [] s e same h is = refl
sums_push [] (f ∷ es) s e same h is = absurd (omega (arith, same))
sums_push (n ∷ ns) [] s e same h is = absurd (omega (arith, same))
sums_push (n ∷ ns) (f ∷ es) s e same h is =
    let last : length (n ∷ ns) - 1 ≡ length es = omega (arith, same) in
    ap (λ (ms : List ℕ). ms ++ s ∷ []) h
    ∙ next_push n f.key es e s (λ t at. is t (ap (slice_get (n ∷ ns)) last ∙ ap (λ (ms : List ℕ). slice_get (n ∷ ms) (length es)) h ∙ at))

-- ---- those from one on

sums_next : (n : ℕ) (e : Entry) (ns : List ℕ) (es : List Entry) → ns ≡ next_sums n e.key es → AreSums ns es
sums_next n e [] es h = tt
sums_next n e (m ∷ ns) [] h = tt
sums_next n e (m ∷ ns) (f ∷ es) h =
    let same : m ≡ saturated (n + later_entry_size e.key f) = same_Some m (saturated (n + later_entry_size e.key f)) (ap (λ (ms : List ℕ). slice_get ms 0) h) in
    subst (λ (k : ℕ). ns ≡ next_sums k f.key es) (sym same) (ap (drop 1) h)

none_of : (ns : List ℕ) → AreSums ns []
none_of [] = tt
none_of (n ∷ ns) = tt

pub sums_drop : (n : ℕ) (ns : List ℕ) (es : List Entry) → AreSums ns es → AreSums (drop n ns) (drop n es)
sums_drop zero ns es h = h
sums_drop (suc n) [] es h = tt
sums_drop (suc n) (m ∷ ns) [] h = none_of (drop n ns)
sums_drop (suc n) (m ∷ ns) (e ∷ es) h = sums_drop n ns es (sums_next m e ns es h)

-- ---- the difference of two

-- a sum that is no greatest number is exact
reached : (n : ℕ) (before : List ℕ) (es : List Entry) (i s : ℕ) → slice_get (next_sums n before es) i ≡ Some s → s < 2 ^ 64 - 1 → s ≡ n + later_entries_size before (take (suc i) es)
reached n before [] i s at lt = absurd (none-some s at)
reached n before (e ∷ es) zero s at lt =
    let is : saturated (n + later_entry_size before e) ≡ s = same_Some (saturated (n + later_entry_size before e)) s at in
    omega (arith, is, lt)
reached n before (e ∷ es) (suc i) s at lt =
    let more : s ≡ saturated (n + later_entry_size before e) + later_entries_size e.key (take (suc i) es) = reached (saturated (n + later_entry_size before e)) e.key es i s at lt in
    omega (arith, more, lt)

pub sums_between : (before : List ℕ) (ns : List ℕ) (es : List Entry) (i j count a b : ℕ) → AreSums ns es → length ns ≡ length es → j ≡ i + count → slice_get ns i ≡ Some a → slice_get ns j ≡ Some b → b < 2 ^ 64 - 1
    → b ≡ a + later_entries_size (last_key before (take (suc i) es)) (take count (drop (suc i) es))
sums_between before [] es i j count a b h same e first last lt = absurd (none-some a first)
sums_between before (n ∷ ns) [] i j count a b h same e first last lt = absurd (omega (arith, same))
sums_between before (n ∷ ns) (f ∷ es) zero zero count a b h same e first last lt =
    let none : 0 ≡ count = omega (arith, e) in
    subst (λ (k : ℕ). b ≡ a + later_entries_size f.key (take k es)) none (omega (arith, same_Some n b last, same_Some n a first))
sums_between before (n ∷ ns) (f ∷ es) zero (suc j) count a b h same e first last lt =
    let all : suc j ≡ count = omega (arith, e) in
    subst (λ (k : ℕ). b ≡ a + later_entries_size f.key (take k es)) all
    (subst (λ (k : ℕ). b ≡ k + later_entries_size f.key (take (suc j) es)) (same_Some n a first)
    (reached n f.key es j b (ap (λ (ms : List ℕ). slice_get ms j) (sym h) ∙ last) lt))
sums_between before (n ∷ ns) (f ∷ es) (suc i) zero count a b h same e first last lt = absurd (omega (arith, e))
sums_between before (n ∷ ns) (f ∷ es) (suc i) (suc j) count a b h same e first last lt =
    sums_between f.key ns es i j count a b (sums_next n f ns es h) (omega (arith, same)) (omega (arith, e)) first last lt
