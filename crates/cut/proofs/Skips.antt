-- Entries that are taken off run by run, and parts of the entries that are left.
use Rattle.std.proofs.Common.{◌≡◌, ℕ, zero, suc, ◌+◌, ◌-◌, ◌^◌, ◌<◌, ◌≤◌, List, [], ◌∷◌, length, take, drop, refl, sym, ap, subst, ◌∙◌, arith}
use Rattle.std.specs.Prelude.{slice_get, slice_index_or, Option, Some, None}
use Rattle.std.specs.List.{last_or}
use Rattle.std.specs.Option.{option_map}
use Rattle.std.proofs.Math.Seq.{drop-append-add}
use Rattle.std.proofs.lemmas.List.{drop-drop, length-append, length-drop, length-take-le}
use Rattle.block.specs.EncodedEntry.{Entry}
use Rattle.keep.specs.Runs.{Run}
use Rattle.cut.specs.SpanPlaces.{span_between, IsSpanBetween}
use Rattle.cut.specs.RunPlace.{kept_of_runs, IsPlaceInRuns}

-- `left` entries of these runs are still to be taken off, as `count` are of all; and they are no more than the entries of
-- these runs and what a place in a run may be
pub record IsSkipping (all : List Entry) (count : ℕ) (runs : List Run) (left : ℕ) : Type 0 where
  pub rest : drop left (kept_of_runs runs) ≡ drop count all
  pub within : left ≤ 2 ^ 64 - 1 + length (kept_of_runs runs)

run_behind : (r : Run) (rs : List Run) (left : ℕ) → length r.kept ≤ left → drop (left - length r.kept) (kept_of_runs rs) ≡ drop left (kept_of_runs (r ∷ rs))
run_behind r rs left le =
    let whole : length r.kept + (left - length r.kept) ≡ left = omega (arith, le) in
    sym (drop-append-add r.kept (kept_of_runs rs) (left - length r.kept)) ∙ ap (λ (n : ℕ). drop n (kept_of_runs (r ∷ rs))) whole

passed_by : (all : List Entry) (count : ℕ) (runs : List Run) (left : ℕ) (r : Run) → IsSkipping all count runs left → 0 < length runs → length (slice_index_or runs 0 r).kept ≤ left
    → IsSkipping all count (drop 1 runs) (left - length (slice_index_or runs 0 r).kept)
passed_by all count [] left r h some le = absurd (omega arith)
passed_by all count (q ∷ qs) left r h some le = record {
  rest = run_behind q qs left le ∙ h.rest;
  within = omega (arith, h.within, le, length-append q.kept (kept_of_runs qs));
}

at_front : (runs : List Run) (passed : ℕ) (r : Run) → slice_index_or (drop passed runs) 0 r ≡ slice_index_or runs passed r
at_front [] zero r = refl
at_front [] (suc n) r = refl
at_front (q ∷ qs) zero r = refl
at_front (q ∷ qs) (suc n) r = at_front qs n r

-- a run is the same, whatever would stand in the place of one that is missing
pub same_at : (runs : List Run) (i : ℕ) (r q : Run) → i < length runs → slice_index_or runs i r ≡ slice_index_or runs i q
same_at [] i r q lt = absurd (omega arith)
same_at (x ∷ xs) zero r q lt = refl
same_at (x ∷ xs) (suc i) r q lt = same_at xs i r q (omega arith)

further : (passed : ℕ) (runs : List Run) → drop 1 (drop passed runs) ≡ drop (passed + 1) runs
further passed runs = drop-drop 1 passed runs

-- a run of which no entry is left is passed
pub skipping_next : (all : List Entry) (count : ℕ) (runs : List Run) (passed left : ℕ) (r : Run) → IsSkipping all count (drop passed runs) left → passed < length runs → length (slice_index_or runs passed r).kept ≤ left
    → IsSkipping all count (drop (passed + 1) runs) (left - length (slice_index_or runs passed r).kept)
skipping_next all count runs passed left r h some le =
    let here : slice_index_or (drop passed runs) 0 r ≡ slice_index_or runs passed r = at_front runs passed r in
    subst (λ (rs : List Run). IsSkipping all count rs (left - length (slice_index_or runs passed r).kept)) (further passed runs)
    (subst (λ (x : Run). IsSkipping all count (drop 1 (drop passed runs)) (left - length x.kept)) here
    (passed_by all count (drop passed runs) left r h (omega (arith, some, length-drop passed runs)) (subst (λ (x : Run). length x.kept ≤ left) (sym here) le)))

-- the entry after those that are taken off stands in the run that is not passed
pub stands_in : (runs : List Run) (passed left : ℕ) (r : Run) → left < length (slice_index_or runs passed r).kept → IsPlaceInRuns (drop passed runs) left
stands_in [] zero left r lt = tt
stands_in [] (suc n) left r lt = tt
stands_in (q ∷ qs) zero left r lt = lt
stands_in (q ∷ qs) (suc n) left r lt = stands_in qs n left r lt

-- ---- parts

last_at : (n : ℕ) (o : Option Entry) (xs : List Entry) → n < length xs → last_or o (take (suc n) xs) ≡ slice_get (drop n xs) 0
last_at n o [] lt = absurd (omega arith)
last_at zero o (x ∷ xs) lt = refl
last_at (suc n) o (x ∷ xs) lt = last_at n (Some x) xs (omega arith)

-- the last of some entries stands after all others of them
pub last_taken : (n : ℕ) (xs : List Entry) (key : List ℕ) → 0 < n → n ≤ length xs → option_map (λ (e : Entry). e.key) (slice_get (drop (n - 1) xs) 0) ≡ Some key
    → Some key ≡ option_map (λ (e : Entry). e.key) (last_or None (take n xs))
last_taken n xs key some le is =
    let more : suc (n - 1) ≡ n = omega (arith, some) in
    sym is
    ∙ ap (option_map (λ (e : Entry). e.key)) (sym (last_at (n - 1) None xs (omega (arith, some, le))))
    ∙ ap (λ (k : ℕ). option_map (λ (e : Entry). e.key) (last_or None (take k xs))) more

-- what is held of a slice is the place of its first entry and their number
pub record IsFileReading (from to : List Entry) (len : ℕ) : Type 0 where
  pub within : len ≤ length from
  pub same : record { entries = take len from; behind = drop len from } ≡ span_between from to

pub held : (from to : List Entry) (len : ℕ) (last : Option (List ℕ)) → IsSpanBetween from to len last → length (take (length from - length to) from) ≤ 2 ^ 64 - 1 → IsFileReading from to len
held from to len last is fits =
    let taken : length (take (length from - length to) from) ≡ length from - length to = length-take-le (length from - length to) from (omega arith) in
    let exact : len ≡ length from - length to = omega (arith, is.count, fits, taken) in
    record {
      within = omega (arith, exact);
      same =
          ap (λ (n : ℕ). record { entries = take n from; behind = drop n from }) exact
          ∙ ap (λ (es : List Entry). record { entries = take (length from - length to) from; behind = es }) is.later;
    }
