-- The entries of a run, written into a room part by part.
use Rattle.std.proofs.Common.{◌≡◌, ℕ, zero, suc, ◌+◌, ◌-◌, ◌<◌, ◌≤◌, List, [], ◌∷◌, ◌++◌, map, take, drop, length, get_or, Bool, true, ◌&&◌, Some, refl, sym, ap, subst, ◌∙◌, arith}
use Rattle.std.specs.Prelude.{slice_get, nat_le, MatchBool}
use Rattle.std.specs.Option.{option_map}
use Rattle.std.specs.Simd.Lanes.{put_chunk}
use Rattle.std.proofs.Math.Seq.{take-append-add}
use Rattle.std.proofs.lemmas.Bool.{and_parts, leb-true}
use Rattle.std.proofs.lemmas.Grind.{flat_map-append}
use Rattle.std.proofs.lemmas.List.{length-append, length-drop, length-map, length-take-le, map-append, take-append-drop, take_more, flat_map_more}
use Rattle.std.proofs.lemmas.Option.{same_Some, slice_get-get_or}
use Rattle.std.proofs.lemmas.Simd.{length-put_chunk, put_chunk_is}
use Rattle.reads.specs.EncodedEntry.{Entry}
use Rattle.keep.specs.Runs.{Run}
use Rattle.c_api.specs.Runs.{Arrays, IsRunPut, arrays_of, bytes_of, has_room, lengths_of, mark_of, rooms, rooms_with}
use Rattle.c_api.specs.declared.code.TheConstants.{ROOM}
use Rattle.c_api.specs.declared.run_arrays.EntryLengths.{EntryLengths}
use Rattle.c_api.specs.declared.run_arrays.RunMark.{RunMark}
use Rattle.c_api.specs.declared.run_arrays.RunSize.{RunSize}

-- a part, and then the next one after it, are both together
pub put_more : {A : Type 0} (at : ℕ) (room xs ys : List A) → put_chunk (at + length xs) (put_chunk at room xs) ys ≡ put_chunk at room (xs ++ ys)
put_more at [] xs ys = refl
put_more {A} zero (r ∷ rs) [] ys =
    let none : zero + zero ≡ zero = omega arith in
    ap (λ (n : ℕ). put_chunk n (r ∷ rs) ys) none
put_more {A} zero (r ∷ rs) (x ∷ xs) ys =
    let next : zero + suc (length xs) ≡ suc (zero + length xs) = omega arith in
    ap (λ (n : ℕ). put_chunk n (x ∷ put_chunk zero rs xs) ys) next ∙ ap (λ (l : List A). x ∷ l) (put_more zero rs xs ys)
put_more {A} (suc at) (r ∷ rs) xs ys =
    let next : suc at + length xs ≡ suc (at + length xs) = omega arith in
    ap (λ (n : ℕ). put_chunk n (r ∷ put_chunk at rs xs) ys) next ∙ ap (λ (l : List A). r ∷ l) (put_more at rs xs ys)

-- the next part of a list ends within it
pub part_within : {X : Type 0} (all part : List X) (i : ℕ) → i ≤ length all → take (length part) (drop i all) ≡ part → i + length part ≤ length all
part_within all part i le is =
    let rest : List _ = drop i all in
    let n : ℕ = length part in
    let both = length-append (take n rest) (drop n rest) in
    let same = ap length (take-append-drop n rest) in
    let front = ap length is in
    let left = length-drop i all in
    omega (arith, le, both, same, front, left)

-- a list up to there
pub part_more : {X : Type 0} (all part : List X) (i : ℕ) → i ≤ length all → take (length part) (drop i all) ≡ part → take (i + length part) all ≡ take i all ++ part
part_more {X} all part i le is =
    let n : ℕ = length part in
    ap (take (i + n)) (sym (take-append-drop i all))
    ∙ ap (λ (m : ℕ). take (m + n) (take i all ++ drop i all)) (sym (length-take-le i all le))
    ∙ take-append-add (take i all) (drop i all) n
    ∙ ap (λ (l : List X). take i all ++ l) is

-- What a room has so far of the items of a list, and where they end.
pub record WrittenSoFar {X Y : Type 0} (items : List X → List Y) (all : List X) (at : ℕ) (old room : List Y) (place end : ℕ) : Type 0 where
  pub within : place ≤ length all
  pub ends : end ≡ at + length (items (take place all))
  pub written : room ≡ put_chunk at old (items (take place all))

module _ {X Y : Type 0} (items : List X → List Y) (all : List X) (at : ℕ) (old room : List Y) (place end : ℕ) (so : WrittenSoFar items all at old room place end) where
  -- the next items
  pub write_on : (more : List Y) (next : ℕ) (new : List Y) (stop : ℕ) → next ≤ length all → items (take next all) ≡ items (take place all) ++ more → new ≡ put_chunk end room more → stop ≡ end + length more
      → WrittenSoFar items all at old new next stop
  write_on more next new stop within grown is ends =
      let done : List Y = items (take place all) in
      record {
        within = within;
        ends =
            let longer = length-append done more in
            let all_len = ap length grown in
            omega (arith, so.ends, ends, longer, all_len);
        written =
            is
            ∙ ap (λ (r : List Y). put_chunk end r more) so.written
            ∙ ap (λ (n : ℕ). put_chunk n (put_chunk at old done) more) so.ends
            ∙ put_more at old done more
            ∙ ap (put_chunk at old) (sym grown);
      }

  -- the room has place for them
  pub fit_next : ((a b : List X) → items (a ++ b) ≡ items a ++ items b) → at + length (items all) ≤ length old → (more : List Y) (next : ℕ) → items (take next all) ≡ items (take place all) ++ more
      → end + length more ≤ length room
  fit_next joins fits more next grown =
      let done : List Y = items (take place all) in
      let longer = length-append done more in
      let next_len = ap length grown in
      let whole = ap (λ (l : List X). length (items l)) (sym (take-append-drop next all)) in
      let parts = ap length (joins (take next all) (drop next all)) in
      let sum = length-append (items (take next all)) (items (drop next all)) in
      let same = ap length so.written in
      let kept = length-put_chunk at old done in
      omega (arith, so.ends, fits, longer, next_len, whole, parts, sum, same, kept)

-- how long the bytes are with one more entry
pub len_more : (xs : List Entry) (i : ℕ) (both : EntryLengths) → i < length xs → option_map lengths_of (slice_get xs i) ≡ Some both
    → length (bytes_of (take (i + 1) xs)) ≡ length (bytes_of (take i xs)) + (both.key + both.value)
len_more xs i both lt is =
    let none : Entry = record { key = []; value = [] } in
    let here : Entry = get_or xs i none in
    let told : lengths_of here ≡ both = same_Some (lengths_of here) both (ap (option_map lengths_of) (sym (slice_get-get_or xs i none lt)) ∙ is) in
    let done : List ℕ = bytes_of (take i xs) in
    let grown = ap length (ap bytes_of (take_more xs i none lt) ∙ sym (flat_map_more (λ (e : Entry). e.key ++ e.value) [] (take i xs) here)) in
    let sum = length-append done (here.key ++ here.value) in
    let two = length-append here.key here.value in
    let key = ap (λ (l : EntryLengths). l.key) told in
    let value = ap (λ (l : EntryLengths). l.value) told in
    omega (arith, grown, sum, two, key, value)

put_nothing : {A : Type 0} (at : ℕ) (room : List A) → put_chunk at room [] ≡ room
put_nothing at [] = refl
put_nothing zero (r ∷ rs) = refl
put_nothing {A} (suc at) (r ∷ rs) = ap (λ (l : List A). r ∷ l) (put_nothing at rs)

-- nothing is written yet
pub write_first : {X Y : Type 0} (items : List X → List Y) (all : List X) (at : ℕ) (room : List Y) → items [] ≡ [] → WrittenSoFar items all at room room 0 at
write_first {X} {Y} items all at room none =
    record {
      within = omega arith;
      ends = let len = ap length none in omega (arith, len);
      written = sym (ap (put_chunk at room) none ∙ put_nothing at room);
    }

-- the items of one part more
pub items_more : {X Y : Type 0} (items : List X → List Y) → ((a b : List X) → items (a ++ b) ≡ items a ++ items b) → (all part : List X) (i n : ℕ) → i ≤ length all → take (length part) (drop i all) ≡ part → n ≡ length part
    → items (take (i + n) all) ≡ items (take i all) ++ items part
items_more items joins all part i n le is count =
    ap (λ (m : ℕ). items (take (i + m) all)) count ∙ ap items (part_more all part i le is) ∙ joins (take i all) part

-- the bytes of entries in two parts
pub bytes_join : (a b : List Entry) → bytes_of (a ++ b) ≡ bytes_of a ++ bytes_of b
bytes_join a b = flat_map-append (λ (e : Entry). e.key ++ e.value) a b

-- and how long they are
pub lengths_join : (a b : List Entry) → map lengths_of (a ++ b) ≡ map lengths_of a ++ map lengths_of b
lengths_join a b = map-append lengths_of a b

-- how many bytes there are with one part more
pub bytes_on : (all part : List Entry) (i n len sum : ℕ) → (i ≤ length all) × (len ≡ length (bytes_of (take i all))) → take (length part) (drop i all) ≡ part → n ≡ length part → sum ≡ len + length (bytes_of part)
    → (i + n ≤ length all) × (sum ≡ length (bytes_of (take (i + n) all)))
bytes_on all part i n len sum so is count ends =
    let within = part_within all part i so.0 is in
    let grown = ap length (items_more bytes_of bytes_join all part i n so.0 is count) in
    let longer = length-append (bytes_of (take i all)) (bytes_of part) in
    let sofar = so.1 in
    (omega (arith, within, count), omega (arith, grown, longer, sofar, ends))

abbrev sized : ℕ → ℕ → ℕ → RunSize
sized bytes entries marks = record { bytes = bytes; entries = entries; marks = marks }

-- rooms that a run was put into
pub run_put : (run : Run) (bytes bytes_new : List ℕ) (lengths lengths_new : List EntryLengths) (marks marks_new told : List RunMark) (b l m : ℕ) → told ≡ map mark_of run.marks → b ≡ length (bytes_of run.kept) → l ≡ length run.kept → m ≡ length told
    → (nat_le b (length bytes) && nat_le l (length lengths) && nat_le m (length marks)) ≡ true
    → bytes_new ≡ put_chunk 0 bytes (bytes_of run.kept) → lengths_new ≡ put_chunk 0 lengths (map lengths_of run.kept) → marks_new ≡ told ++ drop (length told) marks
    → IsRunPut 0 (rooms bytes lengths marks) (rooms bytes_new lengths_new marks_new) (sized b l m) (arrays_of run)
run_put run bytes bytes_new lengths lengths_new marks marks_new told b l m told_is b_is l_is m_is fits bytes_put lengths_put marks_put =
    let all : List ℕ = bytes_of run.kept in
    let both : List EntryLengths = map lengths_of run.kept in
    let ms : List RunMark = map mark_of run.marks in
    let old : Arrays = rooms bytes lengths marks in
    let both_len : l ≡ length both = l_is ∙ sym (length-map run.kept lengths_of) in
    let ms_len : m ≡ length ms = m_is ∙ ap length told_is in
    let room : has_room old (arrays_of run) ≡ true =
    sym (ap (λ (x : ℕ). nat_le x (length bytes) && nat_le l (length lengths) && nat_le m (length marks)) b_is
    ∙ ap (λ (x : ℕ). nat_le (length all) (length bytes) && nat_le x (length lengths) && nat_le m (length marks)) both_len
    ∙ ap (λ (x : ℕ). nat_le (length all) (length bytes) && nat_le (length both) (length lengths) && nat_le x (length marks)) ms_len)
    ∙ fits in
    let parts = and_parts (nat_le (length all) (length bytes) && nat_le (length both) (length lengths)) (nat_le (length ms) (length marks)) room in
    let first = and_parts (nat_le (length all) (length bytes)) (nat_le (length both) (length lengths)) parts.0 in
    let bytes_fit : length all ≤ length bytes = leb-true (length all) (length bytes) first.0 in
    let lengths_fit : length both ≤ length lengths = leb-true (length both) (length lengths) first.1 in
    let bytes_is : bytes_new ≡ all ++ drop (length all) bytes = bytes_put ∙ put_chunk_is 0 bytes all (omega (arith, bytes_fit)) in
    let lengths_is : lengths_new ≡ both ++ drop (length both) lengths = lengths_put ∙ put_chunk_is 0 lengths both (omega (arith, lengths_fit)) in
    let marks_is : marks_new ≡ ms ++ drop (length ms) marks = marks_put ∙ ap (λ (t : List RunMark). t ++ drop (length t) marks) told_is in
    let new : rooms bytes_new lengths_new marks_new ≡ rooms_with old (arrays_of run) =
    ap (λ (x : List ℕ). rooms x lengths_new marks_new) bytes_is
    ∙ ap (λ (x : List EntryLengths). rooms (all ++ drop (length all) bytes) x marks_new) lengths_is
    ∙ ap (λ (x : List RunMark). rooms (all ++ drop (length all) bytes) (both ++ drop (length both) lengths) x) marks_is in (
      ap (λ (x : ℕ). sized x l m) b_is ∙ ap (λ (x : ℕ). sized (length all) x m) both_len ∙ ap (λ (x : ℕ). sized (length all) (length both) x) ms_len,
      subst (λ (c : Bool). MatchBool c (◌≡◌ {A = ℕ} 0 0 × (rooms bytes_new lengths_new marks_new ≡ rooms_with old (arrays_of run))) (◌≡◌ {A = ℕ} 0 ROOM × (rooms bytes_new lengths_new marks_new ≡ old))) (sym room) (refl, new),
    )
