-- Entries as they are stored in a range's run.
use Rattle.std.proofs.Common.{◌≡◌, ℕ, zero, suc, ◌+◌, ◌*◌, ◌-◌, ◌^◌, ◌<◌, ◌≤◌, List, [], ◌∷◌, ◌++◌, length, map, min, take, drop, get_or, Some, refl, sym, ap, subst, ◌∙◌, arith, length-append}
use Rattle.std.specs.Prelude.{nat_eq, slice_get, slice_range}
use Rattle.std.specs.List.{AllByRecursion, common_prefix_len}
use Rattle.std.specs.Option.{option_map}
use Rattle.std.proofs.Math.Seq.{drop-append_seam}
use Rattle.std.proofs.lemmas.List.{length-drop, length-map, length-take, map-append, drop-drop, drop-map, take-append-le, take_all}
use Rattle.std.proofs.lemmas.Option.{same_Some, none-some, slice_get-map, slice_get_read}
use Rattle.ikey.specs.Key.{IsInternalKey}
use Rattle.reads.specs.EncodedEntry.{Entry}
use Rattle.reads.specs.BuilderView.{last_key}
use Rattle.merge.proofs.Orders.{all_append}
use Rattle.keep.specs.declared.kept_entry.KeptEntry.{KeptEntry}
use Rattle.coding.specs.Saturated.{saturated}
use Rattle.keep.specs.KeyBuffer.{entries_at, start_of, AreBufferEnds, AreKeys, AreSums, IsNextSum}
use Rattle.keep.specs.SharedLengths.{shared_lens}
use Rattle.keep.specs.Sizes.{encoded_entry_size, later_entry_size, later_entries_size}
use Rattle.keep.proofs.ChunkSums.{sums_push, sums_drop, sums_between}

ends_last : (at last : ℕ) (ks : List KeptEntry) → AreBufferEnds at last ks → at ≤ last
ends_last at last [] h = omega (arith, h)
ends_last at last (k ∷ ks) h = let more = ends_last k.end last ks h.1 in omega (arith, h.0, more)

drop_front : (n : ℕ) (xs ys : List ℕ) → n ≤ length xs → drop n (xs ++ ys) ≡ drop n xs ++ ys
drop_front zero xs ys h = refl
drop_front (suc n) [] ys h = absurd (omega arith)
drop_front (suc n) (x ∷ xs) ys h = drop_front n xs ys (omega arith)

-- a part of the bytes, if others follow
same_part : (keys more : List ℕ) (at end : ℕ) → at ≤ end → end ≤ length keys → slice_range (keys ++ more) at end ≡ slice_range keys at end
same_part keys more at end h k =
    ap (take (end - at)) (drop_front at keys more (omega arith))
    ∙ take-append-le (end - at) (drop at keys) more (omega (arith, length-drop at keys, h, k))

last_part : (keys key : List ℕ) (at : ℕ) → at ≡ length keys → slice_range (keys ++ key) at (length (keys ++ key)) ≡ key
last_part keys key at h =
    ap (λ n. take (length (keys ++ key) - n) (drop n (keys ++ key))) h
    ∙ ap (take (length (keys ++ key) - length keys)) (drop-append_seam keys key)
    ∙ take_all (length (keys ++ key) - length keys) key (omega (arith, length-append keys key))

pub entries_push : (at : ℕ) (keys key : List ℕ) (ks : List KeptEntry) (k : KeptEntry) → AreBufferEnds at (length keys) ks → k.end ≡ length (keys ++ key)
    → entries_at at (keys ++ key) (ks ++ k ∷ []) ≡ entries_at at keys ks ++ record { key = key; value = k.value.now } ∷ []
entries_push at keys key [] k h e =
    ap (λ (bytes : List ℕ). record { key = bytes; value = k.value.now } ∷ []) (ap (slice_range (keys ++ key) at) e ∙ last_part keys key at h)
entries_push at keys key (j ∷ ks) k h e =
    let end = ends_last j.end (length keys) ks h.1 in
    ap (λ (bytes : List ℕ). record { key = bytes; value = j.value.now } ∷ entries_at j.end (keys ++ key) (ks ++ k ∷ [])) (same_part keys key at j.end h.0 end)
    ∙ ap (λ (es : List Entry). record { key = slice_range keys at j.end; value = j.value.now } ∷ es) (entries_push j.end keys key ks k h.1 e)

ends_push : (at : ℕ) (keys key : List ℕ) (ks : List KeptEntry) (k : KeptEntry) → AreBufferEnds at (length keys) ks → k.end ≡ length (keys ++ key) → AreBufferEnds at (length (keys ++ key)) (ks ++ k ∷ [])
ends_push at keys key [] k h e = (omega (arith, h, e, length-append keys key), e)
ends_push at keys key (j ∷ ks) k h e = (h.0, ends_push j.end keys key ks k h.1 e)

-- ---- the lengths that keys share

pub length-entries : (at : ℕ) (keys : List ℕ) (ks : List KeptEntry) → length (entries_at at keys ks) ≡ length ks
length-entries at keys [] = refl
length-entries at keys (k ∷ ks) = ap suc (length-entries k.end keys ks)

tail_same : (before other : List ℕ) (es : List Entry) → drop 1 (shared_lens before es) ≡ drop 1 (shared_lens other es)
tail_same before other [] = refl
tail_same before other (e ∷ es) = refl

pub shared_push : (before : List ℕ) (es : List Entry) (e : Entry) → shared_lens before (es ++ e ∷ []) ≡ shared_lens before es ++ common_prefix_len nat_eq (last_key before es) e.key ∷ []
shared_push before [] e = refl
shared_push before (f ∷ es) e = ap (λ (ns : List ℕ). common_prefix_len nat_eq before f.key ∷ ns) (shared_push f.key es e)

pub shared_drop : (n : ℕ) (before : List ℕ) (es : List Entry) → drop n (shared_lens before es) ≡ shared_lens (last_key before (take n es)) (drop n es)
shared_drop zero before es = refl
shared_drop (suc n) before [] = refl
shared_drop (suc n) before (e ∷ es) = shared_drop n e.key es

length-shared : (before : List ℕ) (es : List Entry) → length (shared_lens before es) ≡ length es
length-shared before [] = refl
length-shared before (e ∷ es) = ap suc (length-shared e.key es)

-- lists that are the same but for their first
tail_grown : (xs ys : List ℕ) (n m : ℕ) → length xs ≡ length ys → drop 1 xs ≡ drop 1 ys → (0 < length ys → n ≡ m) → drop 1 (xs ++ n ∷ []) ≡ drop 1 (ys ++ m ∷ [])
tail_grown [] [] n m l h same = refl
tail_grown [] (y ∷ ys) n m l h same = absurd (omega (arith, l))
tail_grown (x ∷ xs) [] n m l h same = absurd (omega (arith, l))
tail_grown (x ∷ xs) (y ∷ ys) n m l h same = ap (λ (zs : List ℕ). zs ++ n ∷ []) h ∙ ap (λ (k : ℕ). ys ++ k ∷ []) (same (omega arith))

tail_at : (xs ys : List ℕ) (i : ℕ) → 0 < i → drop 1 xs ≡ drop 1 ys → slice_get xs i ≡ slice_get ys i
tail_at xs ys zero some h = absurd (omega arith)
tail_at [] [] (suc i) some h = refl
tail_at [] (y ∷ ys) (suc i) some h = ap (λ (zs : List ℕ). slice_get zs i) h
tail_at (x ∷ xs) [] (suc i) some h = ap (λ (zs : List ℕ). slice_get zs i) h
tail_at (x ∷ xs) (y ∷ ys) (suc i) some h = ap (λ (zs : List ℕ). slice_get zs i) h

-- what a kept entry has of its key
abbrev shared_of : KeptEntry → ℕ
shared_of k = k.shared

abbrev sum_of : KeptEntry → ℕ
sum_of k = k.sum

length-sums : (at : ℕ) (keys : List ℕ) (ks : List KeptEntry) → length (map sum_of ks) ≡ length (entries_at at keys ks)
length-sums at keys ks = length-map ks sum_of ∙ sym (length-entries at keys ks)

-- the sum of an entry that is pushed, by what its key shares
next_of : (ns : List ℕ) (es : List Entry) (k : KeptEntry) (key : List ℕ) → length ns ≡ length es → (0 < length es → k.shared ≡ common_prefix_len nat_eq (last_key [] es) key)
    → IsNextSum ns (saturated (encoded_entry_size k.shared (length key - k.shared) (length k.value.now))) k.sum → IsNextSum ns (later_entry_size (last_key [] es) (record { key = key; value = k.value.now })) k.sum
next_of [] es k key same shared sum n at = absurd (none-some n at)
next_of (m ∷ ns) es k key same shared sum n at =
    let size : encoded_entry_size k.shared (length key - k.shared) (length k.value.now) ≡ later_entry_size (last_key [] es) (record { key = key; value = k.value.now }) =
    ap (λ (s : ℕ). encoded_entry_size s (length key - s) (length k.value.now)) (shared (omega (arith, same))) in
    omega (arith, sum n at, size)

pub keys_push : (keys key : List ℕ) (ks : List KeptEntry) (k : KeptEntry) → AreKeys 0 keys ks → k.end ≡ length (keys ++ key) → IsInternalKey key
    → (0 < length (entries_at 0 keys ks) → k.shared ≡ common_prefix_len nat_eq (last_key [] (entries_at 0 keys ks)) key)
    → IsNextSum (map sum_of ks) (saturated (encoded_entry_size k.shared (length key - k.shared) (length k.value.now))) k.sum → AreKeys 0 (keys ++ key) (ks ++ k ∷ [])
keys_push keys key ks k h e internal shared sum =
    let es : List Entry = entries_at 0 keys ks in
    let f : Entry = record { key = key; value = k.value.now } in
    let grown : entries_at 0 (keys ++ key) (ks ++ k ∷ []) ≡ es ++ f ∷ [] = entries_push 0 keys key ks k h.ends e in
    let same : length (map shared_of ks) ≡ length (shared_lens [] es) = length-map ks shared_of ∙ sym (length-entries 0 keys ks) ∙ sym (length-shared [] es) in
    record {
      ends = ends_push 0 keys key ks k h.ends e;
      internal =
          subst (AllByRecursion (λ (g : Entry). IsInternalKey g.key)) (sym grown)
          (all_append (λ (g : Entry). IsInternalKey g.key) es (f ∷ []) h.internal (internal, tt));
      shared =
          ap (drop 1) (map-append shared_of ks (k ∷ []))
          ∙ tail_grown (map shared_of ks) (shared_lens [] es) k.shared (common_prefix_len nat_eq (last_key [] es) key) same h.shared (λ some. shared (omega (arith, some, length-shared [] es)))
          ∙ ap (drop 1) (sym (shared_push [] es f))
          ∙ ap (λ (gs : List Entry). drop 1 (shared_lens [] gs)) (sym grown);
      sums =
          rw (map-append sum_of ks (k ∷ []), grown)
          (sums_push (map sum_of ks) es k.sum f (length-sums 0 keys ks) h.sums (next_of (map sum_of ks) es k key (length-sums 0 keys ks) shared sum));
    }

-- an internal key has at most 65,543 bytes, so there is an end to the bytes of all
pub keys_bound : (at : ℕ) (keys : List ℕ) (ks : List KeptEntry) → AreBufferEnds at (length keys) ks → AllByRecursion (λ (e : Entry). IsInternalKey e.key) (entries_at at keys ks)
    → length keys ≤ at + 65543 * length ks
keys_bound at keys [] h internal = omega (arith, h)
keys_bound at keys (k ∷ ks) h internal =
    let end : k.end ≤ length keys = ends_last k.end (length keys) ks h.1 in
    let more : length keys ≤ k.end + 65543 * length ks = keys_bound k.end keys ks h.1 internal.1 in
    let fits : length (slice_range keys at k.end) ≤ 65543 = internal.0.fits in
    let key : length (slice_range keys at k.end) ≡ min (k.end - at) (length (drop at keys)) = length-take (k.end - at) (drop at keys) in
    omega (arith, h.0, end, more, fits, key, length-drop at keys)

-- ---- one of them

pub entry_at : (at : ℕ) (keys : List ℕ) (ks : List KeptEntry) (i : ℕ) (k : KeptEntry) → i < length ks → k ≡ get_or ks i k
    → slice_get (entries_at at keys ks) i ≡ Some (record { key = slice_range keys (start_of at ks i) k.end; value = k.value.now })
entry_at at keys [] i k lt e = absurd (omega arith)
entry_at at keys (j ∷ ks) zero k lt e = ap (λ (f : KeptEntry). Some (record { key = slice_range keys at f.end; value = f.value.now })) (sym e)
entry_at at keys (j ∷ ks) (suc i) k lt e = entry_at j.end keys ks i k (omega arith) e

pub start_behind : (at : ℕ) (ks : List KeptEntry) (i : ℕ) (k : KeptEntry) → i < length ks → k ≡ get_or ks i k → start_of at ks (suc i) ≡ k.end
start_behind at [] i k lt e = absurd (omega arith)
start_behind at (j ∷ ks) zero k lt e = ap (λ (f : KeptEntry). f.end) (sym e)
start_behind at (j ∷ ks) (suc i) k lt e = start_behind j.end ks i k (omega arith) e

pub record IsPart (last start end : ℕ) : Type 0 where
  pub rises : start ≤ end
  pub within : end ≤ last

pub part_at : (at last : ℕ) (ks : List KeptEntry) (i : ℕ) (k : KeptEntry) → AreBufferEnds at last ks → i < length ks → k ≡ get_or ks i k → IsPart last (start_of at ks i) k.end
part_at at last [] i k h lt e = absurd (omega arith)
part_at at last (j ∷ ks) zero k h lt e =
    subst (λ (f : KeptEntry). IsPart last at f.end) (sym e) (record { rises = h.0; within = ends_last j.end last ks h.1 })
part_at at last (j ∷ ks) (suc i) k h lt e = part_at j.end last ks i k h.1 (omega arith) e

all_at : (P : Entry → Type 0) (es : List Entry) (i : ℕ) (e : Entry) → AllByRecursion P es → slice_get es i ≡ Some e → P e
all_at P [] i e h at = absurd (none-some e at)
all_at P (f ∷ es) zero e h at = subst P (same_Some f e at) h.0
all_at P (f ∷ es) (suc i) e h at = all_at P es i e h.1 at

pub internal_at : (at : ℕ) (keys : List ℕ) (ks : List KeptEntry) (i : ℕ) (k : KeptEntry) → AreKeys at keys ks → i < length ks → k ≡ get_or ks i k → IsInternalKey (slice_range keys (start_of at ks i) k.end)
internal_at at keys ks i k h lt e =
    all_at (λ (f : Entry). IsInternalKey f.key) (entries_at at keys ks) i (record { key = slice_range keys (start_of at ks i) k.end; value = k.value.now }) h.internal (entry_at at keys ks i k lt e)

-- the length that the key of an entry shares with the one before it
pub shared_at : (at : ℕ) (keys : List ℕ) (ks : List KeptEntry) (i : ℕ) (k : KeptEntry) → AreKeys at keys ks → 0 < i → i < length ks → k ≡ get_or ks i k → slice_get (shared_lens [] (entries_at at keys ks)) i ≡ Some k.shared
shared_at at keys ks i k h some lt e =
    sym (tail_at (map shared_of ks) (shared_lens [] (entries_at at keys ks)) i some h.shared)
    ∙ slice_get-map shared_of ks i
    ∙ ap (option_map shared_of) (slice_get_read ks (length ks) i k refl lt e)

-- the lengths of entries, by the sums of the last of them and of the one before the first
pub len_between : (at : ℕ) (keys : List ℕ) (ks : List KeptEntry) (place end : ℕ) (a b : KeptEntry) → AreKeys at keys ks → 0 < place → place ≤ end → slice_get ks (place - 1) ≡ Some a → slice_get ks (end - 1) ≡ Some b → b.sum < 2 ^ 64 - 1
    → b.sum ≡ a.sum + later_entries_size (last_key [] (take place (entries_at at keys ks))) (take (end - place) (drop place (entries_at at keys ks)))
len_between at keys ks zero end a b h some rises first last lt = absurd (omega arith)
len_between at keys ks (suc i) end a b h some rises first last lt =
    let start : suc i - 1 ≡ i = omega arith in
    sums_between [] (map sum_of ks) (entries_at at keys ks) i (end - 1) (end - suc i) a.sum b.sum h.sums (length-sums at keys ks) (omega arith)
    (slice_get-map sum_of ks i ∙ ap (option_map sum_of) (ap (slice_get ks) (sym start) ∙ first))
    (slice_get-map sum_of ks (end - 1) ∙ ap (option_map sum_of) last)
    lt

-- ---- those from one on

entries_drop : (n at : ℕ) (keys : List ℕ) (ks : List KeptEntry) → entries_at (start_of at ks n) keys (drop n ks) ≡ drop n (entries_at at keys ks)
entries_drop zero at keys ks = refl
entries_drop (suc n) at keys [] = refl
entries_drop (suc n) at keys (k ∷ ks) = entries_drop n k.end keys ks

ends_drop : (n at last : ℕ) (ks : List KeptEntry) → AreBufferEnds at last ks → AreBufferEnds (start_of at ks n) last (drop n ks)
ends_drop zero at last ks h = h
ends_drop (suc n) at last [] h = h
ends_drop (suc n) at last (k ∷ ks) h = ends_drop n k.end last ks h.1

all_drop : (P : Entry → Type 0) (n : ℕ) (es : List Entry) → AllByRecursion P es → AllByRecursion P (drop n es)
all_drop P zero es h = h
all_drop P (suc n) [] h = h
all_drop P (suc n) (e ∷ es) h = all_drop P n es h.1

-- one dropped, and then some, or the other way round
drop_turned : (n : ℕ) (xs : List ℕ) → drop 1 (drop n xs) ≡ drop n (drop 1 xs)
drop_turned n xs =
    let sum : n + 1 ≡ 1 + n = omega arith in
    drop-drop 1 n xs ∙ ap (λ (m : ℕ). drop m xs) sum ∙ sym (drop-drop n 1 xs)

pub keys_drop : (n : ℕ) (keys : List ℕ) (ks : List KeptEntry) → AreKeys 0 keys ks → AreKeys (start_of 0 ks n) keys (drop n ks)
keys_drop n keys ks h =
    let es : List Entry = entries_at 0 keys ks in
    record {
      ends = ends_drop n 0 (length keys) ks h.ends;
      internal = subst (AllByRecursion (λ (e : Entry). IsInternalKey e.key)) (sym (entries_drop n 0 keys ks)) (all_drop (λ (e : Entry). IsInternalKey e.key) n es h.internal);
      shared =
          ap (drop 1) (sym (drop-map shared_of n ks))
          ∙ drop_turned n (map shared_of ks)
          ∙ ap (drop n) h.shared
          ∙ sym (drop_turned n (shared_lens [] es))
          ∙ ap (drop 1) (shared_drop n [] es)
          ∙ tail_same (last_key [] (take n es)) [] (drop n es)
          ∙ ap (λ (fs : List Entry). drop 1 (shared_lens [] fs)) (sym (entries_drop n 0 keys ks));
      sums = rw (sym (drop-map sum_of n ks), entries_drop n 0 keys ks) (sums_drop n (map sum_of ks) es h.sums);
    }

pub entries_from : (n : ℕ) (keys : List ℕ) (ks : List KeptEntry) → entries_at (start_of 0 ks n) keys (drop n ks) ≡ drop n (entries_at 0 keys ks)
entries_from n keys ks = entries_drop n 0 keys ks
