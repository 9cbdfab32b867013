-- Entries in full chunks, and those after them.
use Rattle.std.proofs.Common.{◌≡◌, ℕ, zero, suc, ◌+◌, ◌*◌, ◌/◌, ◌%◌, ◌<◌, ◌≤◌, List, [], ◌∷◌, ◌++◌, length, take, drop, Some, refl, sym, ap, subst, ◌∙◌, arith, length-append, append_assoc, append-nil, mod-lt}
use Rattle.std.specs.Prelude.{slice_get}
use Rattle.std.specs.List.{AllByRecursion}
use Rattle.std.proofs.Math.Nat.{div-add-mod}
use Rattle.std.proofs.Math.Seq.{take-length, take-append_seam, drop-append-add}
use Rattle.std.proofs.lemmas.List.{drop-append-le}
use Rattle.std.proofs.lemmas.Option.{same_Some}
use Rattle.ikey.specs.Key.{IsInternalKey}
use Rattle.reads.specs.EncodedEntry.{Entry}
use Rattle.merge.proofs.Orders.{all_append}
use Rattle.keep.specs.EntryChunks.{all_kept, AreInChunks}

abbrev pub IsFull : List Entry → Type 0
IsFull p = length p ≡ 4096

abbrev pub IsKeyed : Entry → Type 0
IsKeyed e = IsInternalKey e.key

-- ---- growing

-- the last chunk closed, and none after it
pub all_kept_closed : (ps : List (List Entry)) (last : List Entry) → all_kept (ps ++ last ∷ []) [] ≡ all_kept ps last
all_kept_closed [] last = append-nil last
all_kept_closed (p ∷ ps) last = ap (λ (es : List Entry). p ++ es) (all_kept_closed ps last)

pub all_kept_push : (ps : List (List Entry)) (last : List Entry) (e : Entry) → all_kept ps (last ++ e ∷ []) ≡ all_kept ps last ++ e ∷ []
all_kept_push [] last e = refl
all_kept_push (p ∷ ps) last e = ap (λ (es : List Entry). p ++ es) (all_kept_push ps last e) ∙ sym (append_assoc p (all_kept ps last) (e ∷ []))

-- the same entries in other chunks
pub chunks_same : (ps qs : List (List Entry)) (last more : List Entry) (n : ℕ) → AreInChunks ps last n → all_kept qs more ≡ all_kept ps last → AllByRecursion IsFull qs → length more ≤ 4096
    → AreInChunks qs more n
chunks_same ps qs last more n h e f l = record {
  full = f;
  last = l;
  count = h.count ∙ ap length (sym e);
  internal = subst (AllByRecursion IsKeyed) (sym e) h.internal;
}

pub chunks_push : (ps : List (List Entry)) (last : List Entry) (n m : ℕ) (e : Entry) → AreInChunks ps last n → m ≡ n + 1 → IsInternalKey e.key → length last < 4096
    → AreInChunks ps (last ++ e ∷ []) m
chunks_push ps last n m e h k internal lt =
    let number : m ≡ length (all_kept ps last ++ e ∷ []) = omega (arith, k, h.count, length-append (all_kept ps last) (e ∷ [])) in
    record {
      full = h.full;
      last = omega (arith, lt, length-append last (e ∷ []));
      count = number ∙ ap length (sym (all_kept_push ps last e));
      internal = subst (AllByRecursion IsKeyed) (sym (all_kept_push ps last e)) (all_append IsKeyed (all_kept ps last) (e ∷ []) h.internal (internal, tt));
    }

-- ---- those from one on

-- the entry at a place stands in the chunk of this number, at this place, and those after it in the chunk are those after it
pub record StandsIn (ps : List (List Entry)) (last : List Entry) (number at place : ℕ) : Type 0 where
  pub numbered : number ≤ length ps
  pub within : (p : List Entry) → slice_get (ps ++ last ∷ []) number ≡ Some p → at < length p
  pub front : (p : List Entry) → slice_get (ps ++ last ∷ []) number ≡ Some p → take (length (drop at p)) (drop place (all_kept ps last)) ≡ drop at p

-- the front of a list with more after it
front_of : (xs ys : List Entry) (i : ℕ) → i < length xs → take (length (drop i xs)) (drop i (xs ++ ys)) ≡ drop i xs
front_of xs ys i h = ap (take (length (drop i xs))) (drop-append-le i xs ys (omega (arith, h))) ∙ take-append_seam (drop i xs) ys

stands_at : (ps : List (List Entry)) (last : List Entry) (q r i : ℕ) → i ≡ 4096 * q + r → r < 4096 → AllByRecursion IsFull ps → length last ≤ 4096 → i < length (all_kept ps last) → StandsIn ps last q r i
stands_at [] last zero r i e b h l lt =
    let place : r ≡ i = omega (arith, e) in
    let within : i < length last = lt in
    let below : r < length last = omega (arith, e, within) in
    record {
      numbered = omega arith;
      within = λ p at. subst (λ (es : List Entry). r < length es) (same_Some last p at) below;
      front = λ p at. subst (λ (es : List Entry). take (length (drop r es)) (drop i last) ≡ drop r es) (same_Some last p at) (ap (λ (n : ℕ). take (length (drop r last)) (drop n last)) (sym place) ∙ take-length (drop r last));
    }
stands_at [] last (suc q) r i e b h l lt =
    let within : i < length last = lt in
    absurd (omega (arith, e, within, l))
stands_at (p ∷ ps) last zero r i e b h l lt =
    let place : r ≡ i = omega (arith, e) in
    let full : length p ≡ 4096 = h.0 in
    let below : r < length p = omega (arith, b, full) in
    record {
      numbered = omega arith;
      within = λ o at. subst (λ (es : List Entry). r < length es) (same_Some p o at) below;
      front = λ o at. subst (λ (es : List Entry). take (length (drop r es)) (drop i (p ++ all_kept ps last)) ≡ drop r es) (same_Some p o at) (ap (λ (n : ℕ). take (length (drop r p)) (drop n (p ++ all_kept ps last))) (sym place) ∙ front_of p (all_kept ps last) r below);
    }
stands_at (p ∷ ps) last (suc q) r i e b h l lt =
    let full : length p ≡ 4096 = h.0 in
    let within : i < length (p ++ all_kept ps last) = lt in
    let behind : 4096 * q + r < length (all_kept ps last) = omega (arith, length-append p (all_kept ps last), full, within, e) in
    let more = stands_at ps last q r (4096 * q + r) refl b h.1 l behind in
    let place : i ≡ length p + (4096 * q + r) = omega (arith, e, full) in
    let same : drop i (p ++ all_kept ps last) ≡ drop (4096 * q + r) (all_kept ps last) = ap (λ (n : ℕ). drop n (p ++ all_kept ps last)) place ∙ drop-append-add p (all_kept ps last) (4096 * q + r) in
    record {
      numbered = omega (arith, more.numbered);
      within = more.within;
      front = λ o at. ap (take (length (drop r o))) same ∙ more.front o at;
    }

pub stands_in : (ps : List (List Entry)) (last : List Entry) (n i : ℕ) → AreInChunks ps last n → i < length (all_kept ps last) → StandsIn ps last (i / 4096) (i % 4096) i
stands_in ps last n i h lt =
    let below : i % 4096 < 4096 = mod-lt i {m = 4096} (omega arith) in
    stands_at ps last (i / 4096) (i % 4096) i (sym (div-add-mod i 4096)) below h.full h.last lt

-- ---- the first of a chunk

first_taken : (n : ℕ) (xs : List Entry) → 0 < n → slice_get (take n xs) 0 ≡ slice_get xs 0
first_taken zero xs some = absurd (omega arith)
first_taken (suc n) [] some = refl
first_taken (suc n) (x ∷ xs) some = refl

pub first_dropped : (n : ℕ) (xs : List Entry) → slice_get (drop n xs) 0 ≡ slice_get xs n
first_dropped zero xs = refl
first_dropped (suc n) [] = refl
first_dropped (suc n) (x ∷ xs) = first_dropped n xs

pub first_of : (p all : List Entry) (n : ℕ) → 0 < length p → take (length p) (drop n all) ≡ p → slice_get p 0 ≡ slice_get all n
first_of p all n some front = ap (λ (es : List Entry). slice_get es 0) (sym front) ∙ first_taken (length p) (drop n all) some ∙ first_dropped n all
