-- A file that a range doesn't need has no entry in it.
use Rattle.std.proofs.Common.{◌≡◌, ℕ, ◌+◌, Bool, true, false, cond, not, List, [], ◌∷◌, ◌++◌, length, Option, Some, None, refl, sym, ap, ◌∙◌, if◌then◌else◌, inl, inr, arith}
use Rattle.std.specs.Prelude.{◌&&◌, ◌||◌, ◌⊎◌, filter}
use Rattle.std.specs.List.{All}
use Rattle.std.specs.Cmp.{IsTotalOrder}
use Rattle.std.specs.Option.{option_map_or}
use Rattle.std.specs.Ordering.{is_lt}
use Rattle.std.specs.declared.cmp.Ordering.{Ordering}
use Rattle.std.proofs.lemmas.List.Elements.{All-head, All-tail, filter-append}
use Rattle.std.proofs.lemmas.Bool.{false_from_ne_true}
use Rattle.ikey.specs.Key.{user_of}
use Rattle.table.specs.EncodedEntry.{Entry}
use Rattle.reads.specs.MergedLists.{entries_of_lists}
use Rattle.split.specs.Ranges.{KeyRange, IsIn}
use Rattle.folder.specs.meta.FileMeta.{FileMeta}
use Rattle.merge.specs.InRange.{entries_in, is_in_range}
use Rattle.merge.proofs.InRange.{holds_tells}
use Rattle.merge.proofs.Reaching.{begins_behind, ends_before, table_never_falls}
use Rattle.reads.specs.StatedFiles.{IsStatedFile}
use Rattle.reads.specs.TableOrder.{lists_of_files}
use Rattle.reads.specs.Tables.{NumberedContents, table_entries}
use Rattle.reads.proofs.Answers.{entries_are}
use Rattle.split.specs.Bounds.{is_user_before}
use Rattle.checks.specs.NeededFiles.{is_file_needed}
use Rattle.checks.specs.FileStarts.{starts_in}
use Rattle.checks.specs.GroupTest.{count_in}

needed_by : (begins earlier ends : Bool) → (begins && not earlier) ≡ true → (begins && (not earlier || not ends)) ≡ true
needed_by true false ends h = refl
needed_by true true ends h = absurd cc
needed_by false earlier ends h = absurd cc

swapped : (a b : Bool) → (a && b) ≡ true → (b && a) ≡ true
swapped true true h = refl
swapped true false h = absurd cc
swapped false b h = absurd cc

pub not_needed_by : (begins earlier ends : Bool) → (begins && (not earlier || not ends)) ≡ false → (begins ≡ false) ⊎ (ends ≡ true)
not_needed_by false earlier ends h = inl refl
not_needed_by true false ends h = absurd cc
not_needed_by true true true h = inr refl
not_needed_by true true false h = absurd cc

module _ (cmp : List ℕ → List ℕ → Ordering) (total : IsTotalOrder cmp) (range : KeyRange) where
  pub starts_needed : (f : FileMeta) → starts_in cmp range f ≡ true → is_file_needed cmp range f ≡ true
  starts_needed f h = needed_by (is_user_before cmp range.upper true (user_of f.smallest)) (is_user_before cmp range.lower false (user_of f.smallest)) (is_user_before cmp range.lower false (user_of f.largest)) h

  -- the test of a range, as the other one has it
  turned : (lower : Option (List ℕ)) (up : Bool) (user : List ℕ) → (option_map_or (λ l. not (is_lt (cmp user l))) lower true && up) ≡ true → (up && not (is_user_before cmp lower false user)) ≡ true
  turned None up user h = swapped true up h
  turned (Some l) up user h = swapped (not (is_lt (cmp user l))) up h

  -- a file begins in the range that its smallest user key is in
  pub starts_where : (f : FileMeta) → IsIn cmp range (user_of f.smallest) → starts_in cmp range f ≡ true
  starts_where f within = turned range.lower (is_user_before cmp range.upper true (user_of f.smallest)) (user_of f.smallest) ((holds_tells cmp range (user_of f.smallest)).1 within)

  -- and in no other
  back : (lower : Option (List ℕ)) (up : Bool) (user : List ℕ) → (up && not (is_user_before cmp lower false user)) ≡ true → (option_map_or (λ l. not (is_lt (cmp user l))) lower true && up) ≡ true
  back None up user h = swapped up true h
  back (Some l) up user h = swapped up (not (is_lt (cmp user l))) h

  pub where_starts : (f : FileMeta) → starts_in cmp range f ≡ true → IsIn cmp range (user_of f.smallest)
  where_starts f h = (holds_tells cmp range (user_of f.smallest)).0 (back range.lower (is_user_before cmp range.upper true (user_of f.smallest)) (user_of f.smallest) h)

  module _ (next : Option ℕ) (tables : List NumberedContents) where
    missed : (f : FileMeta) → IsStatedFile cmp tables next f → is_file_needed cmp range f ≡ false → entries_in cmp range (table_entries tables f.number) ≡ []
    missed f s isnt =
        ap (entries_in cmp range) (entries_are tables f.number s.table s.there)
        ∙ elim (not_needed_by (is_user_before cmp range.upper true (user_of f.smallest)) (is_user_before cmp range.lower false (user_of f.smallest)) (is_user_before cmp range.lower false (user_of f.largest)) isnt) [
          | inl behind ↦ begins_behind cmp total range s.table.entries (table_never_falls cmp total s.table.bytes s.table s.accepted) f.smallest (sym s.smallest) behind
          | inr before ↦ ends_before cmp total range s.table.entries (table_never_falls cmp total s.table.bytes s.table s.accepted) f.largest (sym s.largest) before
        ]

    abbrev joined : List FileMeta → List Entry
    joined fs = entries_of_lists (lists_of_files tables fs)

    -- the files that a range needs have all entries in it
    pub needed_entries : (standing : List FileMeta) → All (IsStatedFile cmp tables next) standing → entries_in cmp range (joined (filter (is_file_needed cmp range) standing)) ≡ entries_in cmp range (joined standing)
    needed_entries [] stated = refl
    needed_entries (f ∷ fs) stated = by (is_file_needed cmp range f) refl (needed_entries fs (All-tail (IsStatedFile cmp tables next) f fs stated))
      where
        whole : entries_in cmp range (table_entries tables f.number ++ joined fs) ≡ entries_in cmp range (table_entries tables f.number) ++ entries_in cmp range (joined fs)
        whole = filter-append (λ e. is_in_range cmp range (user_of e.key)) (table_entries tables f.number) (joined fs)

        by : (b : Bool) → is_file_needed cmp range f ≡ b → entries_in cmp range (joined (filter (is_file_needed cmp range) fs)) ≡ entries_in cmp range (joined fs)
            → entries_in cmp range (joined (cond b (f ∷ filter (is_file_needed cmp range) fs) (filter (is_file_needed cmp range) fs))) ≡ entries_in cmp range (table_entries tables f.number ++ joined fs)
        by true is rest =
            filter-append (λ e. is_in_range cmp range (user_of e.key)) (table_entries tables f.number) (joined (filter (is_file_needed cmp range) fs))
            ∙ ap (λ (es : List Entry). entries_in cmp range (table_entries tables f.number) ++ es) rest ∙ sym whole
        by false is rest =
            rest ∙ sym (ap (λ (es : List Entry). es ++ entries_in cmp range (joined fs)) (missed f (All-head (IsStatedFile cmp tables next) f fs stated) is)) ∙ sym whole

  -- the files that a range needs are all that begin in it
  pub needed_count : (tables : List NumberedContents) (standing : List FileMeta) → count_in cmp range tables (filter (is_file_needed cmp range) standing) ≡ count_in cmp range tables standing
  needed_count tables [] = refl
  needed_count tables (f ∷ fs) = by (is_file_needed cmp range f) refl (needed_count tables fs)
    where
      none : is_file_needed cmp range f ≡ false → (if starts_in cmp range f then length (table_entries tables f.number) else 0) ≡ 0
      none isnt =
          ap (λ (b : Bool). if b then length (table_entries tables f.number) else 0)
          (false_from_ne_true (starts_in cmp range f) (λ starts. let both : true ≡ false = sym (starts_needed f starts) ∙ isnt in absurd cc))

      plus_none : (a b : ℕ) → a ≡ 0 → b ≡ a + b
      plus_none a b h = omega (arith, h)

      by : (b : Bool) → is_file_needed cmp range f ≡ b → count_in cmp range tables (filter (is_file_needed cmp range) fs) ≡ count_in cmp range tables fs
          → count_in cmp range tables (cond b (f ∷ filter (is_file_needed cmp range) fs) (filter (is_file_needed cmp range) fs)) ≡ (if starts_in cmp range f then length (table_entries tables f.number) else 0) + count_in cmp range tables fs
      by true is rest = ap (λ (n : ℕ). (if starts_in cmp range f then length (table_entries tables f.number) else 0) + n) rest
      by false is rest = rest ∙ plus_none (if starts_in cmp range f then length (table_entries tables f.number) else 0) (count_in cmp range tables fs) (none is)
