-- Entries that are passed at once, none of them at a restart.
use Rattle.std.proofs.Common.{◌≡◌, ℕ, zero, suc, ◌+◌, ◌-◌, ◌^◌, ◌<◌, ◌≤◌, cond, eqb, List, [], ◌∷◌, ◌++◌, length, take, drop, min, refl, sym, ap, subst, ◌∙◌, arith}
use Rattle.std.specs.Prelude.{Option, Some, slice_get}
use Rattle.std.specs.Option.{option_map}
use Rattle.std.proofs.lemmas.Bool.{ne_eqb}
use Rattle.std.proofs.lemmas.List.{drop-drop, drop-take, take-take}
use Rattle.std.proofs.lemmas.Option.{none-some}
use Rattle.coding.specs.Saturated.{saturated}
use Rattle.block.specs.EncodedEntry.{Entry}
use Rattle.block.specs.BuilderView.{last_key}
use Rattle.table.specs.declared.options.Options.{Options}
use Rattle.keep.specs.Sizes.{later_entries_size}
use Rattle.keep.proofs.ChunkLists.{first_dropped}
use Rattle.cut.specs.BlockInProgress.{BlockInProgress, added_size, next_since, key_after, stretch_size}
use Rattle.cut.specs.ChunkWalk.{IsInSlice}
use Rattle.cut.specs.EntryWalkView.{EntryWalkView}
use Rattle.cut.proofs.Walks.{key_of}
use Rattle.cut.proofs.Filled.{IsFilling, filling_more, filling_part}
use Rattle.cut.proofs.Metered.{since_below}

-- ---- in a slice

-- the entries of the slice from a place on are those of all
same_part : (start slice : List Entry) (place n : ℕ) → take (length slice) start ≡ slice → place + n ≤ length slice → take n (drop place start) ≡ take n (drop place slice)
same_part start slice place n front le =
    let rest : ℕ = length slice - place in
    let whole : length slice ≡ place + rest = omega (arith, le) in
    sym
    (ap (λ (es : List Entry). take n (drop place es)) (sym front)
    ∙ ap (λ (m : ℕ). take n (drop place (take m start))) whole
    ∙ ap (take n) (drop-take place rest start)
    ∙ take-take n rest (drop place start) (omega (arith, le)))

last_at : (before : List ℕ) (es : List Entry) (i : ℕ) → i < length es → option_map key_of (slice_get es i) ≡ Some (last_key before (take (suc i) es))
last_at before [] i lt = absurd (omega arith)
last_at before (e ∷ es) zero lt = refl
last_at before (e ∷ es) (suc i) lt = last_at e.key es i (omega arith)

size_is : (before : List ℕ) (es : List Entry) → stretch_size (Some before) es ≡ later_entries_size before es
size_is before [] = refl
size_is before (e ∷ es) = omega (arith, size_is e.key es)

-- the key before the next entry is the last one of the slice that is passed
before_is : (start slice : List Entry) (place : ℕ) (before : Option (List ℕ)) → IsInSlice start slice place before → 0 < place → place < length slice → before ≡ Some (last_key [] (take place slice))
before_is start slice zero before h some lt = absurd (omega arith)
before_is start slice (suc i) before h some lt = h.last i (omega arith) ∙ last_at [] slice i (omega arith)

pub stretch_is : (start slice : List Entry) (place n : ℕ) (before : Option (List ℕ)) → IsInSlice start slice place before → 0 < place → place + n < length slice
    → later_entries_size (last_key [] (take place slice)) (take n (drop place slice)) ≡ stretch_size before (take n (drop place start))
stretch_is start slice place n before h some lt =
    sym
    (ap (λ (b : Option (List ℕ)). stretch_size b (take n (drop place start))) (before_is start slice place before h some (omega (arith, lt)))
    ∙ ap (stretch_size (Some (last_key [] (take place slice)))) (same_part start slice place n h.front (omega (arith, lt)))
    ∙ size_is (last_key [] (take place slice)) (take n (drop place slice)))

after_at : (before : Option (List ℕ)) (es : List Entry) (n : ℕ) (key : List ℕ) → option_map key_of (slice_get es n) ≡ Some key → key_after before (take (suc n) es) ≡ Some key
after_at before [] n key h = absurd (none-some key h)
after_at before (e ∷ es) zero key h = h
after_at before (e ∷ es) (suc n) key h = after_at (Some e.key) es n key h

get_dropped : (n i : ℕ) (es : List Entry) → slice_get (drop n es) i ≡ slice_get es (n + i)
get_dropped n i es =
    sym (first_dropped i (drop n es)) ∙ ap (λ (xs : List Entry). slice_get xs 0) (drop-drop i n es) ∙ first_dropped (n + i) es

key_after_is : (start slice : List Entry) (place n : ℕ) (before : Option (List ℕ)) (key : List ℕ) → IsInSlice start slice place before → 0 < place → place + n < length slice
    → option_map key_of (slice_get slice (place + n - 1)) ≡ Some key → Some key ≡ key_after before (take n (drop place start))
key_after_is start slice zero n before key h some lt k = absurd (omega arith)
key_after_is start slice (suc i) zero before key h some lt k =
    let here : i ≡ suc i + 0 - 1 = omega arith in
    sym (h.last i (omega arith) ∙ ap (λ (j : ℕ). option_map key_of (slice_get slice j)) here ∙ k)
key_after_is start slice (suc i) (suc n) before key h some lt k =
    let here : suc i + n ≡ suc i + suc n - 1 = omega arith in
    sym
    (ap (key_after before) (same_part start slice (suc i) (suc n) h.front (omega (arith, lt)))
    ∙ after_at before (drop (suc i) slice) n key
    (ap (option_map key_of) (get_dropped (suc i) n slice ∙ ap (slice_get slice) here) ∙ k))

-- a walk with its next n entries passed
abbrev pub after_some : ℕ → EntryWalkView → EntryWalkView
after_some n w = record { before = key_after w.before (take n w.rest); rest = drop n w.rest }

pub view_after : (start slice : List Entry) (place n : ℕ) (before : Option (List ℕ)) (key : List ℕ) → IsInSlice start slice place before → 0 < place → place + n < length slice
    → option_map key_of (slice_get slice (place + n - 1)) ≡ Some key
    → ◌≡◌ {A = EntryWalkView} (record { before = Some key; rest = drop (place + n) start }) (after_some n (record { before = before; rest = drop place start }))
view_after start slice place n before key h some lt k =
    ap (λ (b : Option (List ℕ)). record { before = b; rest = drop (place + n) start }) (key_after_is start slice place n before key h some lt k)
    ∙ ap (λ (es : List Entry). record { before = key_after before (take n (drop place start)); rest = es }) (sym (drop-drop n place start))

-- ---- in a block

-- one entry, at no restart
filling_one : (o : Options) (m : BlockInProgress) (taken : ℕ) (e : Entry) (es : List Entry) (before : Option (List ℕ)) (len since : ℕ) → IsFilling o m taken (e ∷ es) before len since
    → 0 < taken → o.block_size ≤ 4194304 → m.interval ≡ o.restart_interval → 0 < since → len + added_size 1 before e.key (length e.value) < o.block_size
    → IsFilling o m (taken + 1) es (Some e.key) (len + added_size 1 before e.key (length e.value)) (next_since m.interval since)
filling_one o m taken e es before len since h some le interval later lt =
    let size : ℕ = added_size 1 before e.key (length e.value) in
    let same : added_size since before e.key (length e.value) ≡ size = rw (ne_eqb since 0 (λ none. absurd (omega (arith, none, later)))) refl in
    let sum : min (len + saturated (added_size since before e.key (length e.value))) (2 ^ 64 - 1) ≡ len + size = omega (arith, same, lt, le) in
    subst (λ (n : ℕ). IsFilling o m (taken + 1) es (Some e.key) n (next_since m.interval since)) sum
    (filling_more o m taken (e ∷ es) before len since (saturated (added_size since before e.key (length e.value))) h le interval
    (filling_part o m taken (e ∷ es) before len since h some le interval (omega (arith, lt))) (omega arith) refl)

-- the number of entries after the last whole interval
abbrev pub after_stretch : ℕ → ℕ → ℕ
after_stretch interval n = cond (eqb n interval) 0 n

pub filling_stretch : (n : ℕ) (o : Options) (m : BlockInProgress) (taken : ℕ) (rest : List Entry) (before : Option (List ℕ)) (len since : ℕ) → IsFilling o m taken rest before len since
    → 0 < taken → o.block_size ≤ 4194304 → m.interval ≡ o.restart_interval → (0 < n → 0 < since) → since + n ≤ m.interval → n ≤ length rest
    → len + stretch_size before (take n rest) < o.block_size
    → IsFilling o m (taken + n) (drop n rest) (key_after before (take n rest)) (len + stretch_size before (take n rest)) (after_stretch m.interval (since + n))
filling_stretch zero o m taken rest before len since h some le interval later within fits lt =
    let below : since < m.interval = since_below m.interval (m.entries ++ take taken m.behind) len since h.metered in
    let t : taken + 0 ≡ taken = omega arith in
    let l : len + 0 ≡ len = omega arith in
    let s : after_stretch m.interval (since + 0) ≡ since = rw (ne_eqb (since + 0) m.interval (λ e. absurd (omega (arith, e, below)))) (omega arith) in
    rw (t, l, s) h
filling_stretch (suc n) o m taken [] before len since h some le interval later within fits lt = absurd (omega (arith, fits))
filling_stretch (suc zero) o m taken (e ∷ es) before len since h some le interval later within fits lt =
    let l : len + stretch_size before (e ∷ []) ≡ len + added_size 1 before e.key (length e.value) = omega arith in
    rw l (filling_one o m taken e es before len since h some le interval (later (omega arith)) (omega (arith, lt)))
filling_stretch (suc (suc n)) o m taken (e ∷ es) before len since h some le interval later within fits lt =
    let size : ℕ = added_size 1 before e.key (length e.value) in
    let later_on : next_since m.interval since ≡ since + 1 = rw (ne_eqb (since + 1) m.interval (λ is. absurd (omega (arith, is, within)))) refl in
    let one : IsFilling o m (taken + 1) es (Some e.key) (len + size) (since + 1) =
    subst (IsFilling o m (taken + 1) es (Some e.key) (len + size)) later_on (filling_one o m taken e es before len since h some le interval (later (omega arith)) (omega (arith, lt))) in
    let t : taken + 1 + suc n ≡ taken + suc (suc n) = omega arith in
    let l : len + size + stretch_size (Some e.key) (take (suc n) es) ≡ len + (size + stretch_size (Some e.key) (take (suc n) es)) = omega arith in
    let s : since + 1 + suc n ≡ since + suc (suc n) = omega arith in
    subst (λ (k : ℕ). IsFilling o m k (drop (suc n) es) (key_after (Some e.key) (take (suc n) es)) (len + (size + stretch_size (Some e.key) (take (suc n) es))) (after_stretch m.interval (since + suc (suc n)))) t
    (subst (λ (k : ℕ). IsFilling o m (taken + 1 + suc n) (drop (suc n) es) (key_after (Some e.key) (take (suc n) es)) k (after_stretch m.interval (since + suc (suc n)))) l
    (subst (λ (k : ℕ). IsFilling o m (taken + 1 + suc n) (drop (suc n) es) (key_after (Some e.key) (take (suc n) es)) (len + size + stretch_size (Some e.key) (take (suc n) es)) (after_stretch m.interval k)) s
    (filling_stretch (suc n) o m (taken + 1) es (Some e.key) (len + size) (since + 1) one (omega arith) le interval (λ any. omega arith) (omega (arith, within)) (omega (arith, fits)) (omega (arith, lt)))))
