-- The entries of files in a range, and of the tables that the range needs.
use Rattle.std.proofs.Common.{◌≡◌, ℕ, Bool, true, false, cond, List, [], ◌∷◌, ◌++◌, map, Result, Ok, refl, sym, ap, ap₂, subst, ◌∙◌, inl, inr}
use Rattle.std.specs.List.{AllZip, filter}
use Rattle.std.specs.Cmp.{IsTotalOrder}
use Rattle.std.specs.Option.{option_map}
use Rattle.std.proofs.lemmas.List.Elements.{All-head, All-tail, filter-append}
use Rattle.std.proofs.lemmas.Bool.{false_from_ne_true}
use Rattle.table.specs.fault.Fault.{Fault}
use Rattle.table.specs.Comparator.{KeyOrder}
use Rattle.table.specs.Key.{user_of}
use Rattle.table.specs.EncodedEntry.{Entry}
use Rattle.table.specs.TableContents.{Contents}
use Rattle.folder.specs.meta.FileMeta.{FileMeta}
use Rattle.folder.specs.Calls.{Files}
use Rattle.merge.specs.InRange.{entries_in, is_in_range}
use Rattle.merge.proofs.InRange.{holds_tells}
use Rattle.merge.proofs.Reaching.{begins_behind, ends_before, table_never_falls}
use Rattle.reads.specs.Ranges.{IsIn, KeyRange}
use Rattle.reads.specs.Tables.{NumberedContents}
use Rattle.checks.specs.HeldTables.{AreFound}
use Rattle.checks.specs.NeededFiles.{is_file_needed}
use Rattle.merge.specs.Bounds.{is_user_before}
use Rattle.checks.proofs.FileTables.{numbers_in}
use Rattle.checks.proofs.NeededLemmas.{not_needed_by}
use Rattle.faults.specs.VersionFault.{MisplacedKey}
use Rattle.faults.specs.FileFaults.{file_reading}
use Rattle.faults.specs.KeyFaults.{FileEntries, SearchedEntry, first_break, is_of, is_sound, misplaced_at, read_entries, read_file, searched_in, searched_of}
use Rattle.faults.specs.KeyWalk.{AreMisplacedIn}
use Rattle.faults.specs.RangeKeys.{AreSoundIn, IsCursorOf}
use Rattle.faults.proofs.KeySteps.{key_of}
use Rattle.faults.proofs.SoundFiles.{first_there, held_table, last_there, reading_of_table, sound_held}
use Rattle.faults.proofs.UserEntries.{of_user, searched}

-- the entries of a table
abbrev pub table_file : NumberedContents → FileEntries
table_file t = record { number = t.number; entries = t.contents.entries }

-- keys are misplaced by the entries of their user keys alone
pub misplaced_same : (cmp : KeyOrder) (P : List ℕ → Type 0) (one two : List SearchedEntry) (keys : List MisplacedKey) → ((user : List ℕ) → P user → filter (is_of user) one ≡ filter (is_of user) two) → AreMisplacedIn cmp P one keys → AreMisplacedIn cmp P two keys
misplaced_same cmp P one two keys same are = record {
  rising = are.rising;
  each = λ k at. let own = are.each k at in (own.0, sym (at_user k.user own.0) ∙ own.1);
  all = λ user k p is. are.all user k p (at_user user p ∙ is);
}
  where
    at_user : (user : List ℕ) → P user → misplaced_at one user ≡ misplaced_at two user
    at_user user p = ap (λ (es : List SearchedEntry). option_map (key_of user) (first_break es)) (same user p)

module _ (cmp : KeyOrder) (total : IsTotalOrder cmp) (range : KeyRange) where
  -- the entries of a user key of the range are among those in it
  in_range_only : (n : ℕ) (user : List ℕ) → IsIn cmp range user → (es : List Entry) → filter (is_of user) (map (searched n) es) ≡ filter (is_of user) (map (searched n) (entries_in cmp range es))
  in_range_only n user within [] = refl
  in_range_only n user within (e ∷ es) = by (is_in_range cmp range (user_of e.key)) refl (in_range_only n user within es)
    where
      rest_of : List SearchedEntry
      rest_of = filter (is_of user) (map (searched n) es)

      inside : List Entry
      inside = entries_in cmp range es

      by : (b : Bool) → is_in_range cmp range (user_of e.key) ≡ b → rest_of ≡ filter (is_of user) (map (searched n) inside)
          → cond (is_of user (searched n e)) (searched n e ∷ rest_of) rest_of ≡ filter (is_of user) (map (searched n) (cond b (e ∷ inside) inside))
      by true is rest = ap (λ (xs : List SearchedEntry). cond (is_of user (searched n e)) (searched n e ∷ xs) xs) rest
      by false is rest =
          let isnt : is_of user (searched n e) ≡ false =
          false_from_ne_true (is_of user (searched n e))
          (λ h. out (subst (λ (u : List ℕ). is_in_range cmp range u ≡ false) (of_user user (searched n e) h) is)) in
          ap (λ (b : Bool). cond b (searched n e ∷ rest_of) rest_of) isnt ∙ rest
        where
          out : is_in_range cmp range user ≡ false → ⊥
          out h = let both : true ≡ false = sym ((holds_tells cmp range user).1 within) ∙ h in absurd cc

  same_in_range : (n : ℕ) (user : List ℕ) → IsIn cmp range user → (xs ys : List Entry) → entries_in cmp range xs ≡ entries_in cmp range ys → filter (is_of user) (map (searched n) xs) ≡ filter (is_of user) (map (searched n) ys)
  same_in_range n user within xs ys same =
      in_range_only n user within xs ∙ ap (λ (es : List Entry). filter (is_of user) (map (searched n) es)) same ∙ sym (in_range_only n user within ys)

  -- ---- cursors over tables

  pub cursors_same : (user : List ℕ) → IsIn cmp range user → (tables : List NumberedContents) (cursors : List FileEntries) → AllZip (IsCursorOf cmp range) tables cursors → filter (is_of user) (searched_of cursors) ≡ filter (is_of user) (searched_of (map table_file tables))
  cursors_same user within [] [] h = refl
  cursors_same user within [] (f ∷ fs) h = absurd h
  cursors_same user within (t ∷ ts) [] h = absurd h
  cursors_same user within (t ∷ ts) (f ∷ fs) h =
      filter-append (is_of user) (searched_in f) (searched_of fs)
      ∙ ap₂ (λ (xs ys : List SearchedEntry). xs ++ ys)
      (ap (λ (n : ℕ). filter (is_of user) (map (searched n) f.entries)) h.0.number ∙ same_in_range t.number user within f.entries t.contents.entries h.0.held)
      (cursors_same user within ts fs h.1)
      ∙ sym (filter-append (is_of user) (searched_in (table_file t)) (searched_of (map table_file ts)))

  -- ---- the files that the range needs

  module _ (files : Files) where
    missed : (f : FileMeta) → is_sound cmp files f ≡ true → is_file_needed cmp range f ≡ false → entries_in cmp range (read_file cmp files f).entries ≡ []
    missed f sound isnt =
        let h = sound_held cmp files f sound in
        let falls = table_never_falls cmp total h.contents.bytes h.contents (held_table cmp files f h).read in
        ap (λ (r : Result Contents Fault). entries_in cmp range (read_entries r)) h.reading
        ∙ elim (not_needed_by (is_user_before cmp range.upper true (user_of f.smallest)) (is_user_before cmp range.lower false (user_of f.smallest)) (is_user_before cmp range.lower false (user_of f.largest)) isnt) [
          | inl behind ↦ begins_behind cmp total range h.contents.entries falls f.smallest (first_there cmp files f h) behind
          | inr before ↦ ends_before cmp total range h.contents.entries falls f.largest (last_there cmp files f h) before
        ]

    pub needed_same : (user : List ℕ) → IsIn cmp range user → (fs : List FileMeta) → AreSoundIn cmp files fs
        → filter (is_of user) (searched_of (map (read_file cmp files) (filter (is_file_needed cmp range) fs))) ≡ filter (is_of user) (searched_of (map (read_file cmp files) fs))
    needed_same user within [] sound = refl
    needed_same user within (f ∷ fs) sound = by (is_file_needed cmp range f) refl (needed_same user within fs (All-tail (λ (g : FileMeta). is_sound cmp files g ≡ true) f fs sound))
      where
        own : List SearchedEntry
        own = searched_in (read_file cmp files f)

        rest_of : List SearchedEntry
        rest_of = searched_of (map (read_file cmp files) fs)

        needed : List FileMeta
        needed = filter (is_file_needed cmp range) fs

        by : (b : Bool) → is_file_needed cmp range f ≡ b → filter (is_of user) (searched_of (map (read_file cmp files) needed)) ≡ filter (is_of user) rest_of
            → filter (is_of user) (searched_of (map (read_file cmp files) (cond b (f ∷ needed) needed))) ≡ filter (is_of user) (own ++ rest_of)
        by true is rest =
            filter-append (is_of user) own (searched_of (map (read_file cmp files) needed))
            ∙ ap (λ (xs : List SearchedEntry). filter (is_of user) own ++ xs) rest ∙ sym (filter-append (is_of user) own rest_of)
        by false is rest =
            let none : filter (is_of user) own ≡ [] =
            same_in_range f.number user within (read_file cmp files f).entries [] (missed f (All-head (λ (g : FileMeta). is_sound cmp files g ≡ true) f fs sound) is) in
            rest ∙ ap (λ (xs : List SearchedEntry). xs ++ filter (is_of user) rest_of) (sym none) ∙ sym (filter-append (is_of user) own rest_of)

  -- ---- tables that were found

  module _ (files : Files) where
    pub found_files : (fs : List FileMeta) (tables : List NumberedContents) → AreFound cmp files (numbers_in fs) tables → map table_file tables ≡ map (read_file cmp files) fs
    found_files [] [] h = refl
    found_files [] (t ∷ ts) h = absurd h
    found_files (f ∷ fs) [] h = absurd h
    found_files (f ∷ fs) (t ∷ ts) h =
        let reading : file_reading cmp files f.number ≡ Ok t.contents = reading_of_table cmp files f.number t.contents h.0.1 in
        let entries : t.contents.entries ≡ read_entries (file_reading cmp files f.number) = ap read_entries (sym reading) in
        ap₂ (λ (x : FileEntries) (xs : List FileEntries). x ∷ xs)
        (ap₂ (λ (n : ℕ) (es : List Entry). let x : FileEntries = record { number = n; entries = es } in x) h.0.0 entries)
        (found_files fs ts h.1)

    pub all_found : (fs : List FileMeta) → AreSoundIn cmp files fs → (tables : List NumberedContents) × AreFound cmp files (numbers_in fs) tables
    all_found [] sound = ([], tt)
    all_found (f ∷ fs) sound =
        let h = sound_held cmp files f (All-head (λ (g : FileMeta). is_sound cmp files g ≡ true) f fs sound) in
        let rest = all_found fs (All-tail (λ (g : FileMeta). is_sound cmp files g ≡ true) f fs sound) in
        (record { number = f.number; contents = h.contents } ∷ rest.0, ((refl, held_table cmp files f h), rest.1))
