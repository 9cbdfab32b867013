-- Places among the entries of runs.
use Rattle.std.proofs.Common.{◌≡◌, ℕ, zero, suc, ◌+◌, ◌-◌, ◌^◌, ◌<◌, ◌≤◌, List, [], ◌∷◌, ◌++◌, length, take, drop, refl, sym, ap, ◌∙◌, arith}
use Rattle.std.specs.Prelude.{min, slice_get, slice_index_or, Option, Some, None}
use Rattle.std.specs.List.{last_or}
use Rattle.std.specs.Option.{option_map}
use Rattle.std.proofs.Math.Seq.{take-add}
use Rattle.std.proofs.lemmas.List.{drop_at, drop-drop, length-drop}
use Rattle.std.proofs.lemmas.Option.{none-some}
use Rattle.block.specs.EncodedEntry.{Entry}
use Rattle.keep.specs.Runs.{Run}
use Rattle.cut.specs.SpanPlaces.{span_between, IsSpanBetween}
use Rattle.cut.specs.RunPlace.{kept_of_runs, IsPlaceInRuns}

drop_none : (n : ℕ) → drop {A = Entry} n [] ≡ []
drop_none zero = refl
drop_none (suc n) = refl

drop_suc : (n : ℕ) (xs : List Entry) → drop (suc n) xs ≡ drop 1 (drop n xs)
drop_suc zero xs = refl
drop_suc (suc n) [] = refl
drop_suc (suc n) (x ∷ xs) = drop_suc n xs

-- one more dropped, by itself
pub drop_next : (n : ℕ) (xs : List Entry) → drop (n + 1) xs ≡ drop 1 (drop n xs)
drop_next n xs =
    let next : n + 1 ≡ suc n = omega arith in
    ap (λ k. drop k xs) next ∙ drop_suc n xs

-- ---- a place in its run

pub in_run : (runs : List Run) (r : Run) (entry : ℕ) → IsPlaceInRuns runs entry → 0 < length (drop entry (kept_of_runs runs)) → entry < length (slice_index_or runs 0 r).kept
in_run [] r entry s h = absurd (omega (arith, h, ap length (drop_none entry)))
in_run (q ∷ qs) r entry s h = s

-- after the last entry of a run stand those of the later runs
pub past_run : (runs : List Run) (r : Run) (entry : ℕ) → entry + 1 ≡ length (slice_index_or runs 0 r).kept
    → kept_of_runs (drop 1 runs) ≡ drop 1 (drop entry (kept_of_runs runs))
past_run [] r entry e = sym (drop_none 1) ∙ ap (drop 1) (sym (drop_none entry))
past_run (q ∷ qs) r entry e =
    sym (drop_at q.kept (kept_of_runs qs) (entry + 1) (sym e)) ∙ drop_next entry (q.kept ++ kept_of_runs qs)

-- ---- a slice with one entry more

pub last_pushed : {X : Type 0} (o : Option X) (xs : List X) (x : X) → last_or o (xs ++ x ∷ []) ≡ Some x
last_pushed o [] x = refl
last_pushed o (y ∷ xs) x = last_pushed (Some y) xs x

-- how far the second place is from the first, with one entry more
gap : (from to later : List Entry) (e : Entry) → to ≡ e ∷ later → drop (length from - length to) from ≡ to → length from - length later ≡ (length from - length to) + 1
gap from to later e h d =
    let n : length from - (length from - length to) ≡ length to = sym (length-drop (length from - length to) from) ∙ ap length d in
    let m : length to ≡ length later + 1 = ap length h ∙ omega arith in
    omega (arith, n, m)

saturated : (len n : ℕ) → len ≡ min n (2 ^ 64 - 1) → min (len + 1) (2 ^ 64 - 1) ≡ min (n + 1) (2 ^ 64 - 1)
saturated len n h = omega (arith, h)

-- the entries of the longer slice
more : (from to later : List Entry) (e : Entry) → to ≡ e ∷ later → drop (length from - length to) from ≡ to
    → take (length from - length later) from ≡ take (length from - length to) from ++ e ∷ []
more from to later e h d =
    ap (λ n. take n from) (gap from to later e h d)
    ∙ take-add (length from - length to) 1 from
    ∙ ap (λ xs. take (length from - length to) from ++ take 1 xs) (d ∙ h)

pushed_by : (from to : List Entry) (len : ℕ) (last : Option (List ℕ)) (key : List ℕ) (shown : List Entry) → to ≡ shown → IsSpanBetween from to len last
    → option_map (λ (e : Entry). e.key) (slice_get shown 0) ≡ Some key
    → IsSpanBetween from (drop 1 shown) (min (len + 1) (2 ^ 64 - 1)) (Some key) × (span_between from (drop 1 shown) ≡ record { entries = take (length from - length to) from ++ take 1 shown; behind = drop 1 shown })
pushed_by from to len last key [] h is k = absurd (none-some key k)
pushed_by from to len last key (e ∷ later) h is k = (
  record {
    later =
        ap (λ n. drop n from) (gap from to later e h is.later)
        ∙ drop_next (length from - length to) from
        ∙ ap (drop 1) (is.later ∙ h);
    count = saturated len (length from - length to) is.count ∙ ap (λ n. min n (2 ^ 64 - 1)) (sym (gap from to later e h is.later));
    ended =
        sym k
        ∙ ap (option_map (λ (f : Entry). f.key)) (sym (last_pushed None (take (length from - length to) from) e) ∙ ap (last_or None) (sym (more from to later e h is.later)));
  },
  ap (λ (es : List Entry). record { entries = es; behind = later }) (more from to later e h is.later),
)

-- an entry more: the invariant, and what is seen
pub pushed : (from to : List Entry) (len : ℕ) (last : Option (List ℕ)) (key : List ℕ) → IsSpanBetween from to len last → option_map (λ (e : Entry). e.key) (slice_get to 0) ≡ Some key
    → IsSpanBetween from (drop 1 to) (min (len + 1) (2 ^ 64 - 1)) (Some key) × (span_between from (drop 1 to) ≡ record { entries = take (length from - length to) from ++ take 1 to; behind = drop 1 to })
pushed from to len last key is k = pushed_by from to len last key to refl is k

-- ---- a slice with several entries more

pub last_joined : {X : Type 0} (o : Option X) (xs ys : List X) → last_or o (xs ++ ys) ≡ last_or (last_or o xs) ys
last_joined o [] ys = refl
last_joined o (x ∷ xs) ys = last_joined (Some x) xs ys

last_taken : {X : Type 0} (o : Option X) (xs : List X) (n : ℕ) → n < length xs → last_or o (take (suc n) xs) ≡ slice_get xs n
last_taken o [] n h = absurd (omega arith)
last_taken o (x ∷ xs) zero h = refl
last_taken o (x ∷ xs) (suc n) h = last_taken (Some x) xs n (omega arith)

pub last_counted : {X : Type 0} (o : Option X) (xs : List X) (count : ℕ) → 0 < count → count ≤ length xs → last_or o (take count xs) ≡ slice_get xs (count - 1)
last_counted o xs zero some h = absurd (omega arith)
last_counted o xs (suc n) some h =
    let place : n ≡ suc n - 1 = omega arith in
    last_taken o xs n (omega (arith, h)) ∙ ap (slice_get xs) place

-- how far the second place is from the first, with `count` entries more
wide : (from to : List Entry) (count : ℕ) → count ≤ length to → drop (length from - length to) from ≡ to → length from - length (drop count to) ≡ (length from - length to) + count
wide from to count le d =
    let n : length from - (length from - length to) ≡ length to = sym (length-drop (length from - length to) from) ∙ ap length d in
    omega (arith, n, le, length-drop count to)

-- several entries more: the invariant, and what is seen
pub pushed_all : (from to : List Entry) (len count : ℕ) (last key : Option (List ℕ)) → IsSpanBetween from to len last → 0 < count → count ≤ length to
    → key ≡ option_map (λ (e : Entry). e.key) (slice_get to (count - 1))
    → IsSpanBetween from (drop count to) (min (len + count) (2 ^ 64 - 1)) key × (span_between from (drop count to) ≡ record { entries = take (length from - length to) from ++ take count to; behind = drop count to })
pushed_all from to len count last key is some le k =
    let gap : ℕ = length from - length to in
    let far : length from - length (drop count to) ≡ gap + count = wide from to count le is.later in
    let whole : take (length from - length (drop count to)) from ≡ take gap from ++ take count to =
    ap (λ (n : ℕ). take n from) far ∙ take-add gap count from ∙ ap (λ (es : List Entry). take gap from ++ take count es) is.later in (
      record {
        later = ap (λ (n : ℕ). drop n from) far ∙ sym (drop-drop count gap from) ∙ ap (drop count) is.later;
        count = omega (arith, is.count, far);
        ended =
            k
            ∙ ap (option_map (λ (e : Entry). e.key)) (sym (last_counted (last_or None (take gap from)) to count some le) ∙ sym (last_joined None (take gap from) (take count to)) ∙ ap (last_or None) (sym whole));
      },
      ap (λ (es : List Entry). record { entries = es; behind = drop count to }) whole,
    )
