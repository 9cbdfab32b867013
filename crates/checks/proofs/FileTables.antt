-- The tables of a version's files, found in a folder and by themselves.
use Rattle.std.proofs.Common.{Bor, ◌≡◌, ℕ, ◌+◌, Bool, eqb, List, [], ◌∷◌, length, map, Option, Some, refl, sym, ap, ap₂, subst, ◌∙◌, if◌then◌else◌, inl, inr}
use Rattle.std.specs.Prelude.{Contains}
use Rattle.std.specs.List.{All, find}
use Rattle.std.specs.Option.{option_map}
use Rattle.std.specs.declared.cmp.Ordering.{Ordering}
use Rattle.std.proofs.lemmas.Bool.{eq-eqb}
use Rattle.std.proofs.lemmas.List.Elements.{All-head, All-tail}
use Rattle.std.proofs.lemmas.Option.{same_Some}
use Rattle.table.specs.EncodedEntry.{Entry}
use Rattle.table.specs.TableContents.{Contents}
use Rattle.split.specs.Ranges.{KeyRange}
use Rattle.folder.specs.meta.FileMeta.{FileMeta}
use Rattle.folder.proofs.LoadingLemmas.{map_fused}
use Rattle.folder.specs.Calls.{Files}
use Rattle.reads.specs.StatedFiles.{IsStatedFile}
use Rattle.reads.specs.TableOrder.{lists_of_files}
use Rattle.reads.specs.Tables.{NumberedContents, table_entries, table_of_number}
use Rattle.reads.proofs.Answers.{entries_are}
use Rattle.reads.proofs.Members.{first_or_later, none_in}
use Rattle.checks.specs.FileStarts.{starts_in}
use Rattle.checks.specs.GroupTest.{AreStatedBy, IsStatedBy, IsStatedIn, alone, contents_of_all, count_in, counts_of}
use Rattle.checks.specs.HeldTables.{AreFound, IsTableIn}
use Rattle.checks.proofs.FoundTables.{one_table}

-- a table alone is found under its number
pub alone_there : (f : FileMeta) (x : Contents) → table_of_number (alone f x) f.number ≡ Some x
alone_there f x = ap (λ (b : Bool). option_map (λ (t : NumberedContents). t.contents) (if b then Some (record { number = f.number; contents = x }) else find (λ (t : NumberedContents). eqb t.number f.number) [])) (eq-eqb f.number f.number refl)

-- what is stated of a table among others is stated of the table alone, and the other way round
pub stated_alone : (cmp : List ℕ → List ℕ → Ordering) (next : Option ℕ) (tables : List NumberedContents) (f : FileMeta) (x : Contents) (s : IsStatedFile cmp tables next f) → s.table ≡ x → IsStatedBy cmp next f x
stated_alone cmp next tables f x s is = subst (IsStatedBy cmp next f) is (record {
  table = s.table;
  there = alone_there f s.table;
  accepted = s.accepted;
  rising = s.rising;
  size = s.size;
  smallest = s.smallest;
  largest = s.largest;
  below_next = s.below_next;
})

pub stated_among : (cmp : List ℕ → List ℕ → Ordering) (next : Option ℕ) (tables : List NumberedContents) (f : FileMeta) (x : Contents) → IsStatedBy cmp next f x → table_of_number tables f.number ≡ Some x → IsStatedFile cmp tables next f
stated_among cmp next tables f x s there =
    let same : x ≡ s.table = same_Some x s.table (sym (alone_there f x) ∙ s.there) in
    record {
      table = s.table;
      there = there ∙ ap (λ (c : Contents). Some c) same;
      accepted = s.accepted;
      rising = s.rising;
      size = s.size;
      smallest = s.smallest;
      largest = s.largest;
      below_next = s.below_next;
    }

-- the numbers of files
abbrev pub numbers_in : List FileMeta → List ℕ
numbers_in metas = map (λ (f : FileMeta). f.number) metas

-- the numbers of files that are lent
pub lent_numbers : (lent needed : List (Bor FileMeta)) (metas : List FileMeta) (numbers : List ℕ) → lent ≡ needed → map (λ (f : Bor FileMeta). f.now) needed ≡ metas → map (λ (f : Bor FileMeta). f.now.number) lent ≡ numbers → numbers ≡ numbers_in metas
lent_numbers lent needed metas numbers is are told =
    sym told ∙ ap (map (λ (f : Bor FileMeta). f.now.number)) is ∙ map_fused (λ (f : Bor FileMeta). f.now) (λ (f : FileMeta). f.number) needed ∙ ap numbers_in are

module _ (cmp : List ℕ → List ℕ → Ordering) (files : Files) (next : Option ℕ) where
  -- a stated file's table that was found is what the version states
  pub stated_found : (metas : List FileMeta) (found : List NumberedContents) → AreFound cmp files (numbers_in metas) found → AreStatedBy cmp next metas (contents_of_all found) → (f : FileMeta) → Contains metas f → IsStatedIn cmp files next f
  stated_found [] [] h stated f at = absurd (none_in f at)
  stated_found [] (t ∷ found) h stated f at = absurd h
  stated_found (g ∷ metas) [] h stated f at = absurd h
  stated_found (g ∷ metas) (t ∷ found) h stated f at = elim (first_or_later g metas f at) [
    | inl same ↦ subst (IsStatedIn cmp files next) (sym same) (record { contents = t.contents; there = h.0.1; stated = stated.0 })
    | inr later ↦ stated_found metas found h.1 stated.1 f later
  ]

  module _ (tables : List NumberedContents) (read : (number : ℕ) (x : Contents) → table_of_number tables number ≡ Some x → IsTableIn cmp files number x) where
    abbrev Stated : FileMeta → Type 0
    Stated f = IsStatedFile cmp tables next f

    same_table : (f : FileMeta) (x : Contents) (s : Stated f) → IsTableIn cmp files f.number x → s.table ≡ x
    same_table f x s h = one_table cmp files f.number s.table x (read f.number s.table s.there) h

    -- the tables that were found are what the version states, and have the same entries
    pub found_stated : (metas : List FileMeta) (found : List NumberedContents) → AreFound cmp files (numbers_in metas) found → All Stated metas → AreStatedBy cmp next metas (contents_of_all found)
    found_stated [] [] h stated = tt
    found_stated [] (t ∷ found) h stated = absurd h
    found_stated (f ∷ metas) [] h stated = absurd h
    found_stated (f ∷ metas) (t ∷ found) h stated =
        let s = All-head Stated f metas stated in
        (stated_alone cmp next tables f t.contents s (same_table f t.contents s h.0.1), found_stated metas found h.1 (All-tail Stated f metas stated))

    entries_found : (f : FileMeta) (x : Contents) → Stated f → IsTableIn cmp files f.number x → table_entries tables f.number ≡ x.entries
    entries_found f x s h = entries_are tables f.number s.table s.there ∙ ap (λ (c : Contents). c.entries) (same_table f x s h)

    pub found_lists : (metas : List FileMeta) (found : List NumberedContents) → AreFound cmp files (numbers_in metas) found → All Stated metas → lists_of_files tables metas ≡ map (λ (t : NumberedContents). t.contents.entries) found
    found_lists [] [] h stated = refl
    found_lists [] (t ∷ found) h stated = absurd h
    found_lists (f ∷ metas) [] h stated = absurd h
    found_lists (f ∷ metas) (t ∷ found) h stated =
        ap₂ (λ (es : List Entry) (rest : List (List Entry)). es ∷ rest) (entries_found f t.contents (All-head Stated f metas stated) h.0.1) (found_lists metas found h.1 (All-tail Stated f metas stated))

    pub found_counts : (range : KeyRange) (metas : List FileMeta) (found : List NumberedContents) → AreFound cmp files (numbers_in metas) found → All Stated metas → counts_of cmp range metas (contents_of_all found) ≡ count_in cmp range tables metas
    found_counts range [] [] h stated = refl
    found_counts range [] (t ∷ found) h stated = absurd h
    found_counts range (f ∷ metas) [] h stated = absurd h
    found_counts range (f ∷ metas) (t ∷ found) h stated =
        ap₂ (λ (a b : ℕ). a + b)
        (ap (λ (es : List Entry). if starts_in cmp range f then length es else 0) (sym (entries_found f t.contents (All-head Stated f metas stated) h.0.1)))
        (found_counts range metas found h.1 (All-tail Stated f metas stated))

    -- the tables of stated files are found
    pub all_found : (metas : List FileMeta) → All Stated metas → (found : List NumberedContents) × AreFound cmp files (numbers_in metas) found
    all_found [] stated = ([], tt)
    all_found (f ∷ metas) stated =
        let s = All-head Stated f metas stated in
        let rest = all_found metas (All-tail Stated f metas stated) in
        (record { number = f.number; contents = s.table } ∷ rest.0, ((refl, read f.number s.table s.there), rest.1))
