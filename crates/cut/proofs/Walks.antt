-- A walk over entries, slice by slice.
use Rattle.std.proofs.Common.{◌≡◌, ℕ, zero, suc, ◌+◌, ◌-◌, ◌<◌, ◌≤◌, Bool, true, false, cond, eqb, List, [], ◌∷◌, length, take, drop, refl, sym, ap, ◌∙◌, inl, inr, arith}
use Rattle.std.specs.Prelude.{nat_eq, slice_get, slice_index_or, Option, Some, None}
use Rattle.std.specs.List.{common_prefix_len, last_or}
use Rattle.std.specs.Option.{option_map}
use Rattle.std.proofs.lemmas.Bool.{cases_lt, eq-eqb, ne_eqb}
use Rattle.std.proofs.lemmas.List.{drop-append-le, length-drop, length-take, take-append-le}
use Rattle.std.proofs.lemmas.List.Sums.{common_prefix_len-le}
use Rattle.std.proofs.lemmas.Option.{none-some, same_Some}
use Rattle.block.specs.EncodedEntry.{Entry}
use Rattle.block.specs.BuilderView.{last_key, with_entry}
use Rattle.block.proofs.Built.{next_shared}
use Rattle.keep.specs.Runs.{Run}
use Rattle.keep.specs.SharedLengths.{shared_lens}
use Rattle.keep.proofs.ChunkLists.{first_dropped}
use Rattle.cut.specs.RunPlace.{kept_of_runs, IsPlaceInRuns}
use Rattle.cut.specs.EntryWalkView.{EntryWalkView, shared_with_before, left_out_len}
use Rattle.cut.specs.ChunkWalk.{IsInSlice}
use Rattle.cut.proofs.Metered.{ended_is}
use Rattle.cut.proofs.Places.{drop_next}

abbrev pub key_of : Entry → List ℕ
key_of e = e.key

-- ---- a slice

no_more : (p all : List Entry) → take (length p) all ≡ p → length p ≤ length all
no_more p all h = omega (arith, ap length h, length-take (length p) all)

-- a slice of the first run is a slice of all
pub slice_of_all : (runs : List Run) (r : Run) (entry : ℕ) (p : List Entry) → IsPlaceInRuns runs entry → 0 < length (drop entry (kept_of_runs runs)) → take (length p) (drop entry (slice_index_or runs 0 r).kept) ≡ p
    → take (length p) (drop entry (kept_of_runs runs)) ≡ p
slice_of_all [] r zero p s some h =
    let none : 0 < 0 = some in
    absurd (omega (arith, none))
slice_of_all [] r (suc n) p s some h =
    let none : 0 < 0 = some in
    absurd (omega (arith, none))
slice_of_all (q ∷ qs) r entry p s some h =
    let within : entry < length q.kept = s in
    ap (take (length p)) (drop-append-le entry q.kept (kept_of_runs qs) (omega (arith, within)))
    ∙ take-append-le (length p) (drop entry q.kept) (kept_of_runs qs) (no_more p (drop entry q.kept) h)
    ∙ h

first_taken : (n : ℕ) (xs : List Entry) (i : ℕ) → i < n → slice_get (take n xs) i ≡ slice_get xs i
first_taken zero xs i lt = absurd (omega arith)
first_taken (suc n) [] i lt = refl
first_taken (suc n) (x ∷ xs) zero lt = refl
first_taken (suc n) (x ∷ xs) (suc i) lt = first_taken n xs i (omega arith)

-- ---- where a walk is

-- a walk after an entry with this key
abbrev pub passed_view : List ℕ → List Entry → EntryWalkView
passed_view key rest = record { before = Some key; rest = rest }

-- a walk with its next entry passed
abbrev pub after_next : EntryWalkView → EntryWalkView
after_next w = record { before = option_map key_of (slice_get w.rest 0); rest = drop 1 w.rest }

-- an entry is still to come just if the slice has one
pub in_slice : (start slice : List Entry) (passed : ℕ) (before : Option (List ℕ)) → IsInSlice start slice passed before → 0 < length (drop passed start) → passed < length slice
in_slice start slice passed before h some =
    elim (cases_lt passed (length slice)) [
      | inl lt ↦ lt
      | inr le ↦ absurd (omega (arith, some, ap length (h.ended le)))
    ]

pub more_in_slice : (start slice : List Entry) (passed : ℕ) (before : Option (List ℕ)) → IsInSlice start slice passed before → passed < length slice → 0 < length (drop passed start)
more_in_slice start slice passed before h lt = omega (arith, lt, length-drop passed start, no_more slice start h.front)

-- the next entry is that of the slice
pub next_is : (start slice : List Entry) (passed : ℕ) (before : Option (List ℕ)) → IsInSlice start slice passed before → passed < length slice → slice_get (drop passed start) 0 ≡ slice_get slice passed
next_is start slice passed before h lt =
    first_dropped passed start ∙ sym (first_taken (length slice) start passed lt) ∙ ap (λ (es : List Entry). slice_get es passed) h.front

pub walk_first : (start slice : List Entry) (before : Option (List ℕ)) → 0 < length slice → take (length slice) start ≡ slice → IsInSlice start slice 0 before
walk_first start slice before some front = record {
  front = front;
  within = omega arith;
  ended = λ none. absurd (omega (arith, some, none));
  last = λ n none. absurd (omega (arith, none));
}

-- what is seen once the next entry is passed
pub walk_view : (start slice : List Entry) (passed : ℕ) (before : Option (List ℕ)) (key : List ℕ) → IsInSlice start slice passed before → passed < length slice
    → option_map key_of (slice_get slice passed) ≡ Some key
    → passed_view key (drop (passed + 1) start) ≡ after_next (record { before = before; rest = drop passed start })
walk_view start slice passed before key h lt k =
    ap (λ (b : Option (List ℕ)). record { before = b; rest = drop (passed + 1) start }) (sym k ∙ ap (option_map key_of) (sym (next_is start slice passed before h lt)))
    ∙ ap (λ (es : List Entry). record { before = option_map key_of (slice_get (drop passed start) 0); rest = es }) (drop_next passed start)

-- ---- what keys share

shared_step : (before : List ℕ) (es : List Entry) (n shared : ℕ) → slice_get (shared_lens before es) (suc n) ≡ Some shared
    → option_map (λ (e : Entry). shared_with_before (option_map key_of (slice_get es n)) e.key) (slice_get es (suc n)) ≡ Some shared
shared_step before [] n shared h = absurd (none-some shared h)
shared_step before (e ∷ []) zero shared h = absurd (none-some shared h)
shared_step before (e ∷ f ∷ es) zero shared h = h
shared_step before (e ∷ es) (suc n) shared h = shared_step e.key es n shared h

-- within a slice the kept length is that of the key before
pub shared_is : (start slice : List Entry) (passed shared : ℕ) (before : Option (List ℕ)) → IsInSlice start slice passed before → 0 < passed → passed < length slice
    → slice_get (shared_lens [] slice) passed ≡ Some shared
    → option_map (λ (e : Entry). shared_with_before before e.key) (slice_get (drop passed start) 0) ≡ Some shared
shared_is start slice passed shared before h some lt kept =
    let later : passed ≡ suc (passed - 1) = omega (arith, some) in
    let plus : passed ≡ (passed - 1) + 1 = omega (arith, some) in
    ap (option_map (λ (e : Entry). shared_with_before before e.key)) (next_is start slice passed before h lt)
    ∙ ap (λ (b : Option (List ℕ)). option_map (λ (e : Entry). shared_with_before b e.key) (slice_get slice passed)) (h.last (passed - 1) plus)
    ∙ ap (λ (m : ℕ). option_map (λ (e : Entry). shared_with_before (option_map key_of (slice_get slice (passed - 1))) e.key) (slice_get slice m)) later
    ∙ shared_step [] slice (passed - 1) shared (ap (slice_get (shared_lens [] slice)) (sym later) ∙ kept)

-- ---- what an entry leaves out

-- none if a restart points at it
pub at_restart : (since : ℕ) (before : Option (List ℕ)) (es : List Entry) → since ≡ 0 → 0 < length es → option_map (λ (e : Entry). left_out_len since before e.key) (slice_get es 0) ≡ Some 0
at_restart since before [] none some = absurd (omega arith)
at_restart since before (e ∷ es) none some = ap (λ (t : Bool). Some (cond t 0 (shared_with_before before e.key))) (eq-eqb since 0 none)

pub past_restart : (since shared : ℕ) (before : Option (List ℕ)) (es : List Entry) → (since ≡ 0 → ⊥) → option_map (λ (e : Entry). shared_with_before before e.key) (slice_get es 0) ≡ Some shared
    → option_map (λ (e : Entry). left_out_len since before e.key) (slice_get es 0) ≡ Some shared
past_restart since shared before es later h = ap (λ (t : Bool). option_map (λ (e : Entry). cond t 0 (shared_with_before before e.key)) (slice_get es 0)) (ne_eqb since 0 later) ∙ h

-- and none if no entry is before it
none_left : (restart : Bool) → ◌≡◌ {A = ℕ} (cond restart 0 0) 0
none_left true = refl
none_left false = refl

pub with_none_before : (since : ℕ) (before : Option (List ℕ)) (es : List Entry) → before ≡ None → 0 < length es → option_map (λ (e : Entry). left_out_len since before e.key) (slice_get es 0) ≡ Some 0
with_none_before since before [] none some = absurd (omega arith)
with_none_before since before (e ∷ es) none some =
    ap (λ (b : Option (List ℕ)). Some (left_out_len since b e.key)) none ∙ ap (λ (n : ℕ). Some n) (none_left (eqb since 0))

-- by the key of the next entry
pub shared_first : (before : Option (List ℕ)) (es : List Entry) (key : List ℕ) → option_map key_of (slice_get es 0) ≡ Some key → option_map (λ (e : Entry). shared_with_before before e.key) (slice_get es 0) ≡ Some (shared_with_before before key)
shared_first before [] key h = absurd (none-some key h)
shared_first before (e ∷ es) key h = ap (λ (k : List ℕ). Some (shared_with_before before k)) (same_Some e.key key h)

left_first : (since left : ℕ) (before : Option (List ℕ)) (es : List Entry) (key : List ℕ) → option_map (λ (e : Entry). left_out_len since before e.key) (slice_get es 0) ≡ Some left → option_map key_of (slice_get es 0) ≡ Some key → left ≡ left_out_len since before key
left_first since left before [] key l k = absurd (none-some key k)
left_first since left before (e ∷ es) key l k = sym (same_Some (left_out_len since before e.key) left l) ∙ ap (left_out_len since before) (same_Some e.key key k)

-- an entry leaves out no more than its key has
left_fits : (restart : Bool) (before : Option (List ℕ)) (key : List ℕ) → cond restart 0 (shared_with_before before key) ≤ length key
left_fits true before key = omega arith
left_fits false None key = omega arith
left_fits false (Some before) key = (common_prefix_len-le nat_eq before key).1

pub left_within : (since left : ℕ) (before : Option (List ℕ)) (es : List Entry) (key : List ℕ) → option_map (λ (e : Entry). left_out_len since before e.key) (slice_get es 0) ≡ Some left → option_map key_of (slice_get es 0) ≡ Some key → left ≤ length key
left_within since left before es key l k = omega (arith, left_first since left before es key l k, left_fits (eqb since 0) before key)

-- after entries of a block it is what the definition of the block has
shared_after : (q : List Entry) (key : List ℕ) → shared_with_before (option_map key_of (last_or None q)) key ≡ common_prefix_len nat_eq (last_key [] q) key
shared_after [] key = refl
shared_after (x ∷ xs) key = ap (λ (b : Option (List ℕ)). shared_with_before b key) (ended_is x xs)

pub left_next : (since left : ℕ) (q es : List Entry) (before : Option (List ℕ)) (key : List ℕ) → before ≡ option_map key_of (last_or None q)
    → option_map (λ (e : Entry). left_out_len since before e.key) (slice_get es 0) ≡ Some left → option_map key_of (slice_get es 0) ≡ Some key → left ≡ next_shared since (last_key [] q) key
left_next since left q es before key b l k =
    left_first since left before es key l k
    ∙ ap (λ (c : Option (List ℕ)). left_out_len since c key) b
    ∙ ap (λ (n : ℕ). cond (eqb since 0) 0 n) (shared_after q key)

-- the last key after one more entry
last_after : (before : List ℕ) (q : List Entry) (key value : List ℕ) → last_key before (with_entry q key value) ≡ key
last_after before [] key value = refl
last_after before (e ∷ q) key value = last_after e.key q key value

pub last_with : (q : List Entry) (key value : List ℕ) → last_key [] (with_entry q key value) ≡ key
last_with [] key value = refl
last_with (e ∷ q) key value = last_after e.key q key value

pub last_next : (q : List Entry) (key value : List ℕ) → option_map key_of (last_or None (with_entry q key value)) ≡ Some key
last_next [] key value = refl
last_next (e ∷ q) key value = ended_is e (with_entry q key value) ∙ ap (λ (k : List ℕ). Some k) (last_after e.key q key value)
