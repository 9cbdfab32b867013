-- The newest visible entry of a lawful version, level by level.
use Rattle.std.proofs.Common.{Bor, ◌≡◌, ℕ, ◌+◌, ◌<◌, ◌≤◌, true, List, map, get_or, Option, Some, None, sym, ap, subst, ◌∙◌, inl, inr, arith, eq-or-lt_of_le}
use Rattle.std.specs.Prelude.{◌⊎◌, Contains}
use Rattle.std.specs.List.{All, flat_map}
use Rattle.std.specs.Option.{is_some}
use Rattle.std.specs.Cmp.{IsTotalOrder}
use Rattle.std.specs.declared.cmp.Ordering.{Ordering}
use Rattle.std.proofs.lemmas.List.Elements.{All-contains, Contains-get_or}
use Rattle.std.proofs.lemmas.Bool.{cases_lt}
use Rattle.ikey.specs.Key.{user_of, sequence_of}
use Rattle.table.specs.EncodedEntry.{Entry}
use Rattle.edit.specs.Version.{State, are_apart}
use Rattle.edit.specs.VersionOrder.{in_version_order, files_at}
use Rattle.edit.specs.declared.meta.FileMeta.{FileMeta}
use Rattle.edit.specs.declared.meta.NewFile.{NewFile}
use Rattle.reads.specs.Tables.{NumberedContents, table_entries, all_entries}
use Rattle.reads.specs.Visible.{VisibleEntry, IsVisible, IsNewest, IsAnswer}
use Rattle.reads.specs.Lawful.{IsLawful, IsFileOf, AreNewer}
use Rattle.reads.proofs.Members.{in_flat_map, from_flat_map}
use Rattle.reads.proofs.Levels.{lent_from, lent_at}

-- no entry of the levels before this one is visible
pub record NoneBefore (tables : List NumberedContents) (files : List NewFile) (user : List ℕ) (at level : ℕ) : Type 0 where
  pub none : (f : NewFile) → Contains files f → f.level < level → IsAnswer (table_entries tables f.meta.number) user at None
  pub low : 0 < level → All (λ (f : NewFile). f.level ≤ 6) files

pub none_begin : (tables : List NumberedContents) (files : List NewFile) (user : List ℕ) (at : ℕ) → NoneBefore tables files user at 0
none_begin tables files user at = record { none = λ f h lt. absurd (omega arith); low = λ lt. absurd (omega arith) }

pub none_end : (tables : List NumberedContents) (files : List NewFile) (user : List ℕ) (at level : ℕ) → 7 ≤ level → NoneBefore tables files user at level → IsAnswer (all_entries tables files) user at None
none_end tables files user at level end before e there seen =
    let from = from_flat_map (λ (f : NewFile). table_entries tables f.meta.number) files e there in
    let le : from.source.level ≤ 6 = All-contains (λ (f : NewFile). f.level ≤ 6) files from.source (before.low (omega arith)) from.there in
    before.none from.source from.there (omega arith) e from.held seen

-- the entries of files that are lent
abbrev pub lent_entries : List NumberedContents → Bor FileMeta → List Entry
lent_entries tables f = table_entries tables f.now.number

module _ (cmp : List ℕ → List ℕ → Ordering) (total : IsTotalOrder cmp) (v : State) (tables : List NumberedContents) (user : List ℕ) (at level : ℕ) (items : List (Bor FileMeta))
    (is : map (λ (f : Bor FileMeta). f.now) items ≡ in_version_order cmp (files_at v.files level)) (apart : are_apart v.files ≡ true) where
  -- what is in the table of a file of the level is in the level
  in_level : (f : NewFile) (e : Entry) → Contains v.files f → f.level ≡ level → Contains (table_entries tables f.meta.number) e → Contains (flat_map (lent_entries tables) items) e
  in_level f e there own held =
      let lent = lent_at cmp total v.files level items is apart f there own in
      in_flat_map (lent_entries tables) items lent.lent e lent.there (subst (λ (m : FileMeta). Contains (table_entries tables m.number) e) (sym lent.of) held)

  at_most : (n : ℕ) → n < level + 1 → n ≤ level
  at_most n lt = omega arith

  pub none_more : All (λ (f : NewFile). f.level ≤ 6) v.files → IsAnswer (flat_map (lent_entries tables) items) user at None → NoneBefore tables v.files user at level → NoneBefore tables v.files user at (level + 1)
  none_more low none before = record {
    none = λ f there lt. elim (eq-or-lt_of_le (at_most f.level lt)) [ inl own ↦ (λ e held seen. none e (in_level f e there own held) seen) | inr lower ↦ before.none f there lower ];
    low = λ lt. low;
  }

  -- the file of the version that has an entry of the level
  record HeldBy (e : Entry) : Type 0 where
    file : NewFile
    there : Contains v.files file
    stands : file.level ≡ level
    held : Contains (table_entries tables file.meta.number) e

  held_by : (e : Entry) → Contains (flat_map (lent_entries tables) items) e → HeldBy e
  held_by e held =
      let from = from_flat_map (lent_entries tables) items e held in
      let of = lent_from cmp total v.files level items is from.source from.there in
      record { file = of.file; there = of.there; stands = of.stands; held = subst (λ (m : FileMeta). Contains (table_entries tables m.number) e) (sym of.is) from.held }

  most_by : (s : VisibleEntry) (newest : IsNewest (flat_map (lent_entries tables) items) user at s) → IsLawful cmp v tables → NoneBefore tables v.files user at level → (f : NewFile) (e : Entry) → Contains v.files f → Contains (table_entries tables f.meta.number) e → IsVisible user at e
      → (f.level < level) ⊎ ((f.level ≡ level) ⊎ (level < f.level)) → sequence_of e.key ≤ s.sequence
  most_by s newest lawful before f e there held seen (inl lower) = absurd (before.none f there lower e held seen)
  most_by s newest lawful before f e there held seen (inr (inl own)) = newest.most e (in_level f e there own held) seen
  most_by s newest lawful before f e there held seen (inr (inr deeper)) =
      let by = held_by newest.entry newest.there in
      let above : by.file.level < f.level = omega (arith, by.stands) in
      let newer : AreNewer (table_entries tables by.file.meta.number) (table_entries tables f.meta.number) = lawful.newer_above by.file f by.there there (inl above) in
      let P : Entry → Entry → Type 0 = λ a b. user_of a.key ≡ user_of b.key → sequence_of b.key < sequence_of a.key in
      let Q : Entry → Type 0 = λ a. All (λ b. P a b) (table_entries tables f.meta.number) in
      let all : Q newest.entry = All-contains Q (table_entries tables by.file.meta.number) newest.entry newer by.held in
      let below : P newest.entry e = All-contains (λ (b : Entry). P newest.entry b) (table_entries tables f.meta.number) e all held in
      let lt : sequence_of e.key < sequence_of newest.entry.key = below (newest.visible.0 ∙ sym seen.0) in
      let same : sequence_of newest.entry.key ≡ s.sequence = ap (λ (x : VisibleEntry). x.sequence) newest.is in
      omega arith

  where_stands : (n : ℕ) → (n < level) ⊎ ((n ≡ level) ⊎ (level < n))
  where_stands n = by_cases (cases_lt n level)
    where
      by_cases : (n < level) ⊎ (level ≤ n) → (n < level) ⊎ ((n ≡ level) ⊎ (level < n))
      by_cases (inl lt) = inl lt
      by_cases (inr le) = elim (eq-or-lt_of_le le) [ inl e ↦ inr (inl (sym e)) | inr lt ↦ inr (inr lt) ]

  newest_found : (s : VisibleEntry) → IsNewest (flat_map (lent_entries tables) items) user at s → IsLawful cmp v tables → NoneBefore tables v.files user at level → IsNewest (all_entries tables v.files) user at s
  newest_found s newest lawful before =
      let by = held_by newest.entry newest.there in
      record {
        entry = newest.entry;
        there = in_flat_map (λ (f : NewFile). table_entries tables f.meta.number) v.files by.file newest.entry by.there by.held;
        visible = newest.visible;
        is = newest.is;
        most = λ e there seen.
            let from = from_flat_map (λ (f : NewFile). table_entries tables f.meta.number) v.files e there in
            most_by s newest lawful before from.source e from.there from.held seen (where_stands from.source.level);
      }

  pub found : (o : Option VisibleEntry) → is_some o ≡ true → IsAnswer (flat_map (lent_entries tables) items) user at o → IsLawful cmp v tables → NoneBefore tables v.files user at level → IsAnswer (all_entries tables v.files) user at o
  found None some answer lawful before = absurd cc
  found (Some s) some answer lawful before = newest_found s answer lawful before

  -- the files of a lawful version's level are what the version states
  pub level_files_of : IsLawful cmp v tables → All (λ (f : Bor FileMeta). IsFileOf cmp tables f.now) items
  level_files_of lawful k d lt =
      let of = lent_from cmp total v.files level items is (get_or items k d) (Contains-get_or items k d lt) in
      subst (IsFileOf cmp tables) of.is (All-contains (λ (f : NewFile). IsFileOf cmp tables f.meta) v.files of.file lawful.files of.there)
