-- If one user key has one sequence twice, there is no union.
use Rattle.std.proofs.Common.{◌≡◌, ℕ, cond, ◌+◌, ◌≤◌, List, [], ◌∷◌, ◌++◌, refl, sym, ap, subst, ◌∙◌, arith}
use Rattle.std.specs.List.{AllByRecursion, flat_map}
use Rattle.std.specs.List.Sorted.{IsPermutation}
use Rattle.std.specs.Ordering.{ordering_reverse}
use Rattle.std.specs.declared.cmp.Ordering.{Ordering}
use Rattle.std.specs.declared.cmp.Ordering.TheVariants.{Less, Equal, Greater}
use Rattle.std.proofs.lemmas.List.{append-nil}
use Rattle.std.proofs.lemmas.List.Sums.{sum_by-append, sum_by-cons}
use Rattle.std.proofs.lemmas.List.Sorted.{sum_by-IsPermutation}
use Rattle.block.specs.EncodedEntry.{Entry}
use Rattle.ikey.specs.Bytewise.{bytewise_cmp}
use Rattle.merge.specs.Union.{key_version_cmp, IsUnion, VersionsRise}
use Rattle.pairing.specs.Repeats.{has_version, version_count, HasRepeat}
use Rattle.pairing.proofs.Unions.{version_total}

abbrev pub version : List ℕ → List ℕ → Ordering
version = key_version_cmp bytewise_cmp

-- ---- how often a version stands

times-append : (key : List ℕ) (xs ys : List Entry) → version_count key (xs ++ ys) ≡ version_count key xs + version_count key ys
times-append key xs ys = sum_by-append (λ e. cond (has_version key e) 1 0) xs ys

pub times-cons : (key : List ℕ) (e : Entry) (es : List Entry) → version_count key (e ∷ es) ≡ cond (has_version key e) 1 0 + version_count key es
times-cons key e es = sum_by-cons (λ e. cond (has_version key e) 1 0) e es

pub times-moved : (key : List ℕ) (xs ys : List Entry) → IsPermutation xs ys → version_count key ys ≡ version_count key xs
times-moved key xs ys h = sum_by-IsPermutation (λ e. cond (has_version key e) 1 0) xs ys h

-- two versions of one third are one
same_version : (a b key : List ℕ) → version a key ≡ Equal → version b key ≡ Equal → version a b ≡ Equal
same_version a b key p q = version_total.congr a key b p ∙ (version_total.antisymm key b ∙ ap ordering_reverse q)

none_behind : (e : Entry) (key : List ℕ) (es : List Entry) → version e.key key ≡ Equal → AllByRecursion (λ f. version e.key f.key ≡ Less) es → version_count key es ≡ 0
none_behind e key [] p each = refl
none_behind e key (f ∷ es) p each = times-cons key f es ∙ by_order (version f.key key) refl (none_behind e key es p each.1)
  where
    by_order : (o : Ordering) → version f.key key ≡ o → version_count key es ≡ 0 → cond (has_version key f) 1 0 + version_count key es ≡ 0
    by_order Less q rest = rw q (omega (arith, rest))
    by_order Greater q rest = rw q (omega (arith, rest))
    by_order Equal q rest = let same : version e.key f.key ≡ Equal = same_version e.key f.key key p q in absurd (let bad : Equal ≡ Less = sym same ∙ each.0 in cc)

-- in a rising list each version stands once at most
pub rising_once : (key : List ℕ) (es : List Entry) → VersionsRise bytewise_cmp es → version_count key es ≤ 1
rising_once key [] rising = omega arith
rising_once key (e ∷ es) rising = by_order (version e.key key) refl (rising_once key es rising.1)
  where
    by_order : (o : Ordering) → version e.key key ≡ o → version_count key es ≤ 1 → version_count key (e ∷ es) ≤ 1
    by_order Less q rest = let one : version_count key (e ∷ es) ≡ 0 + version_count key es = rw (times-cons key e es, q) refl in omega (arith, one, rest)
    by_order Greater q rest = let one : version_count key (e ∷ es) ≡ 0 + version_count key es = rw (times-cons key e es, q) refl in omega (arith, one, rest)
    by_order Equal q rest = let one : version_count key (e ∷ es) ≡ 1 + version_count key es = rw (times-cons key e es, q) refl in omega (arith, one, none_behind e key es q rising.0)

-- if a version stands twice, there is no union
pub no_union : (a b u : List Entry) → HasRepeat (a ++ b) → IsUnion bytewise_cmp (a ∷ b ∷ []) u → ⊥
no_union a b u repeat union =
    let whole : flat_map (λ (input : List Entry). input) (a ∷ b ∷ []) ≡ a ++ b = ap (λ (t : List Entry). a ++ t) (append-nil b) in
    let same : IsPermutation (a ++ b) u = subst (λ (t : List Entry). IsPermutation t u) whole union.same in
    absurd (omega (arith, repeat.1, rising_once repeat.0 u union.rising, times-moved repeat.0 (a ++ b) u same))

-- a repeat in parts of two lists is one in the lists
pub repeat_in_parts : (a1 a2 b1 b2 : List Entry) → HasRepeat (a1 ++ b1) → HasRepeat ((a1 ++ a2) ++ (b1 ++ b2))
repeat_in_parts a1 a2 b1 b2 repeat = (
  repeat.0,
  omega (arith, repeat.1, times-append repeat.0 a1 b1, times-append repeat.0 (a1 ++ a2) (b1 ++ b2), times-append repeat.0 a1 a2, times-append repeat.0 b1 b2),
)

pub repeat_in_rests : (a1 a2 b1 b2 : List Entry) → HasRepeat (a2 ++ b2) → HasRepeat ((a1 ++ a2) ++ (b1 ++ b2))
repeat_in_rests a1 a2 b1 b2 repeat = (
  repeat.0,
  omega (arith, repeat.1, times-append repeat.0 a2 b2, times-append repeat.0 (a1 ++ a2) (b1 ++ b2), times-append repeat.0 a1 a2, times-append repeat.0 b1 b2),
)

-- a repeat stays if entries are moved
pub repeat_moved : (es fs : List Entry) → IsPermutation es fs → HasRepeat fs → HasRepeat es
repeat_moved es fs same h = (h.0, omega (arith, h.1, times-moved h.0 es fs same))
