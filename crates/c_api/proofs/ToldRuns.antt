-- Runs that are told, entry by entry and mark by mark.
use Rattle.std.proofs.Common.{◌≡◌, ℕ, suc, ◌+◌, ◌-◌, ◌<◌, ◌≤◌, true, List, [], ◌∷◌, ◌++◌, map, drop, length, get_or, refl, sym, ap, subst, ◌∙◌, arith, append_assoc, append-nil}
use Rattle.std.specs.Prelude.{nat_le}
use Rattle.std.proofs.lemmas.Bool.{and_parts, leb-true, and_from}
use Rattle.std.proofs.lemmas.List.{at_drop_more, drop_all, drop_more, length-append}
use Rattle.reads.specs.EncodedEntry.{Entry}
use Rattle.keep.specs.Runs.{Run}
use Rattle.keep.specs.declared.mark.Mark.{Mark}
use Rattle.c_api.specs.ToldRuns.{are_entries, are_marks, begins_entry, after_entry, entries_told, first_entry, mark_told}
use Rattle.c_api.specs.Held.{entries_passed}
use Rattle.c_api.specs.declared.run_arrays.EntryLengths.{EntryLengths}
use Rattle.c_api.specs.declared.run_arrays.RunMark.{RunMark}

abbrev pub no_lengths : EntryLengths
no_lengths = record { key = 0; value = 0 }

abbrev pub no_mark : RunMark
no_mark = record { below = 0; kept = 0 }

-- ---- entries

-- entries in two parts
pub entries_parted : (bytes : List ℕ) (xs ys : List EntryLengths) → entries_told bytes (xs ++ ys) ≡ entries_told bytes xs ++ entries_told (entries_passed bytes xs) ys
entries_parted bytes [] ys = refl
entries_parted bytes (x ∷ xs) ys = ap (λ (es : List Entry). first_entry bytes x ∷ es) (entries_parted (after_entry bytes x) xs ys)

pub front_lies : (bytes : List ℕ) (xs ys : List EntryLengths) → are_entries bytes (xs ++ ys) ≡ true → are_entries bytes xs ≡ true
front_lies bytes [] ys h = refl
front_lies bytes (x ∷ xs) ys h =
    let p = and_parts (begins_entry bytes x) (are_entries (after_entry bytes x) (xs ++ ys)) h in
    and_from (begins_entry bytes x) (are_entries (after_entry bytes x) xs) p.0 (front_lies (after_entry bytes x) xs ys p.1)

pub rest_lies : (bytes : List ℕ) (xs ys : List EntryLengths) → are_entries bytes (xs ++ ys) ≡ true → are_entries (entries_passed bytes xs) ys ≡ true
rest_lies bytes [] ys h = h
rest_lies bytes (x ∷ xs) ys h = rest_lies (after_entry bytes x) xs ys (and_parts (begins_entry bytes x) (are_entries (after_entry bytes x) (xs ++ ys)) h).1

told_length : (bytes : List ℕ) (xs : List EntryLengths) → length (entries_told bytes xs) ≡ length xs
told_length bytes [] = refl
told_length bytes (x ∷ xs) = ap suc (told_length (after_entry bytes x) xs)

-- one entry more
module _ (bytes : List ℕ) (all : List EntryLengths) (i : ℕ) (lt : i < length all) where
  abbrev here : EntryLengths
  here = get_or all i no_lengths

  abbrev later : List EntryLengths
  later = drop (i + 1) all

  pub one_lies : are_entries bytes (drop i all) ≡ true → (begins_entry bytes here ≡ true) × (are_entries (after_entry bytes here) later ≡ true)
  one_lies h = and_parts (begins_entry bytes here) (are_entries (after_entry bytes here) later) (sym (at_drop_more (are_entries bytes) all i no_lengths lt) ∙ h)

  pub one_told : entries_told bytes (drop i all) ≡ first_entry bytes here ∷ entries_told (after_entry bytes here) later
  one_told = at_drop_more (entries_told bytes) all i no_lengths lt

  pub one_behind : entries_passed bytes (drop i all) ≡ entries_passed (after_entry bytes here) later
  one_behind = at_drop_more (entries_passed bytes) all i no_lengths lt

-- the entries so far of those of a run, and those that are left
pub record PushedSoFar (bytes : List ℕ) (lengths : List EntryLengths) (old run : Run) (rest : List ℕ) (i : ℕ) : Type 0 where
  pub lies : are_entries rest (drop i lengths) ≡ true
  pub kept : run.kept ++ entries_told rest (drop i lengths) ≡ old.kept ++ entries_told bytes lengths
  pub marks : run.marks ≡ old.marks
  pub behind : entries_passed rest (drop i lengths) ≡ entries_passed bytes lengths

abbrev with_kept : Run → List Entry → Run
with_kept run es = record { kept = run.kept ++ es; marks = run.marks }

module _ (bytes : List ℕ) (lengths : List EntryLengths) (old run : Run) (rest : List ℕ) (i : ℕ) (so : PushedSoFar bytes lengths old run rest i) where
  pub pushed_on : i < length lengths → (after : Run) (behind : List ℕ) → after ≡ with_kept run (first_entry rest (get_or lengths i no_lengths) ∷ []) → behind ≡ after_entry rest (get_or lengths i no_lengths)
      → PushedSoFar bytes lengths old after behind (i + 1)
  pushed_on lt after behind pushed gone =
      let x : EntryLengths = get_or lengths i no_lengths in
      let later : List EntryLengths = drop (i + 1) lengths in
      record {
        lies = subst (λ (bs : List ℕ). are_entries bs later ≡ true) (sym gone) (one_lies rest lengths i lt so.lies).1;
        kept = ap (λ (r : Run). r.kept ++ entries_told behind later) pushed
            ∙ append_assoc run.kept (first_entry rest x ∷ []) (entries_told behind later)
            ∙ ap (λ (bs : List ℕ). run.kept ++ first_entry rest x ∷ entries_told bs later) gone
            ∙ ap (λ (es : List Entry). run.kept ++ es) (sym (one_told rest lengths i lt))
            ∙ so.kept;
        marks = ap (λ (r : Run). r.marks) pushed ∙ so.marks;
        behind = ap (λ (bs : List ℕ). entries_passed bs later) gone ∙ sym (one_behind rest lengths i lt) ∙ so.behind;
      }

  none_left : length lengths ≤ i → drop i lengths ≡ []
  none_left le = drop_all i lengths le

  pub pushed_all : length lengths ≤ i → run ≡ with_kept old (entries_told bytes lengths)
  pushed_all le =
      let kept : run.kept ≡ old.kept ++ entries_told bytes lengths = sym (append-nil run.kept) ∙ ap (λ (ls : List EntryLengths). run.kept ++ entries_told rest ls) (sym (none_left le)) ∙ so.kept in
      ap (λ (es : List Entry). let r : Run = record { kept = es; marks = run.marks } in r) kept
      ∙ ap (λ (ms : List Mark). let r : Run = record { kept = old.kept ++ entries_told bytes lengths; marks = ms } in r) so.marks

  pub behind_all : length lengths ≤ i → rest ≡ entries_passed bytes lengths
  behind_all le = ap (entries_passed rest) (sym (none_left le)) ∙ so.behind

-- ---- marks

-- marks between entries end within them
marks_within : (from count : ℕ) (ms : List RunMark) → are_marks from count ms ≡ true → from ≤ count
marks_within from count [] h = leb-true from count h
marks_within from count (m ∷ ms) h =
    let p = and_parts (nat_le from m.kept) (are_marks m.kept count ms) h in
    let low = leb-true from m.kept p.0 in
    let high = marks_within m.kept count ms p.1 in
    omega (arith, low, high)

-- the mark at a place, if those from there on lie between entries
pub record NextMark (from count : ℕ) (ms : List RunMark) (i : ℕ) : Type 0 where
  pub low : from ≤ (get_or ms i no_mark).kept
  pub high : (get_or ms i no_mark).kept ≤ count
  pub rest : are_marks (get_or ms i no_mark).kept count (drop (i + 1) ms) ≡ true

pub next_mark : (from count : ℕ) (ms : List RunMark) (i : ℕ) → i < length ms → are_marks from count (drop i ms) ≡ true → NextMark from count ms i
next_mark from count ms i lt h =
    let m : RunMark = get_or ms i no_mark in
    let p = and_parts (nat_le from m.kept) (are_marks m.kept count (drop (i + 1) ms)) (sym (at_drop_more (are_marks from count) ms i no_mark lt) ∙ h) in
    record {
      low = leb-true from m.kept p.0;
      high = marks_within m.kept count (drop (i + 1) ms) p.1;
      rest = p.1;
    }

-- ---- a run

-- what is read of a run after i marks
pub record ReadSoFar (bytes : List ℕ) (lengths : List EntryLengths) (ms : List RunMark) (run : Run) (rest : List ℕ) (left : List EntryLengths) (i : ℕ) : Type 0 where
  pub lies : are_entries rest left ≡ true
  pub count : length run.kept + length left ≡ length lengths
  pub kept : run.kept ++ entries_told rest left ≡ entries_told bytes lengths
  pub between : are_marks (length run.kept) (length lengths) (drop i ms) ≡ true
  pub marks : run.marks ++ map mark_told (drop i ms) ≡ map mark_told ms

module _ (bytes : List ℕ) (lengths : List EntryLengths) (ms : List RunMark) (run : Run) (rest : List ℕ) (left : List EntryLengths) (i : ℕ) (so : ReadSoFar bytes lengths ms run rest left i) where
  module _ (lt : i < length ms) where
    abbrev m : RunMark
    m = get_or ms i no_mark

    pub next : NextMark (length run.kept) (length lengths) ms i
    next = next_mark (length run.kept) (length lengths) ms i lt so.between

    pub few : m.kept - length run.kept ≤ length left
    few = omega (arith, next.low, next.high, so.count)

    pub front : (first later : List EntryLengths) → left ≡ first ++ later → are_entries rest first ≡ true
    front first later whole = front_lies rest first later (subst (λ (ls : List EntryLengths). are_entries rest ls ≡ true) whole so.lies)

    pub read_on : (first later : List EntryLengths) (behind : List ℕ) (between after : Run) → left ≡ first ++ later → length first ≡ m.kept - length run.kept → behind ≡ entries_passed rest first
        → between ≡ with_kept run (entries_told rest first) → after ≡ record { kept = between.kept; marks = between.marks ++ record { below = m.below; kept = length between.kept } ∷ [] }
        → ReadSoFar bytes lengths ms after behind later (i + 1)
    read_on first later behind between after whole long gone pushed marked =
        let t : List Mark = map mark_told (drop (i + 1) ms) in
        let mark : Mark = record { below = m.below; kept = length between.kept } in
        let same : after.kept ≡ between.kept = ap (λ (r : Run). r.kept) marked in
        let kept_is : after.kept ≡ run.kept ++ entries_told rest first = same ∙ ap (λ (r : Run). r.kept) pushed in
        let len_is : length after.kept ≡ m.kept = omega (arith, ap length kept_is, length-append run.kept (entries_told rest first), told_length rest first, long, next.low) in
        let mark_is : mark ≡ mark_told m = ap (λ (n : ℕ). let k : Mark = record { below = m.below; kept = n } in k) (ap length (sym same) ∙ len_is) in
        record {
          lies = subst (λ (bs : List ℕ). are_entries bs later ≡ true) (sym gone) (rest_lies rest first later (subst (λ (ls : List EntryLengths). are_entries rest ls ≡ true) whole so.lies));
          count = omega (arith, len_is, so.count, ap length whole, length-append first later, long, next.low);
          kept = ap (λ (es : List Entry). es ++ entries_told behind later) kept_is
              ∙ append_assoc run.kept (entries_told rest first) (entries_told behind later)
              ∙ ap (λ (bs : List ℕ). run.kept ++ (entries_told rest first ++ entries_told bs later)) gone
              ∙ ap (λ (es : List Entry). run.kept ++ es) (sym (entries_parted rest first later))
              ∙ ap (λ (ls : List EntryLengths). run.kept ++ entries_told rest ls) (sym whole)
              ∙ so.kept;
          between = subst (λ (n : ℕ). are_marks n (length lengths) (drop (i + 1) ms) ≡ true) (sym len_is) next.rest;
          marks = ap (λ (r : Run). r.marks ++ t) marked
              ∙ append_assoc between.marks (mark ∷ []) t
              ∙ ap (λ (r : Run). r.marks ++ mark ∷ t) pushed
              ∙ ap (λ (k : Mark). run.marks ++ k ∷ t) mark_is
              ∙ ap (λ (l : List RunMark). run.marks ++ map mark_told l) (sym (drop_more ms i no_mark lt))
              ∙ so.marks;
        }
