-- A version is lawful exactly if each of its files is what it states, and the entries of the files as they stand fall.
use Rattle.std.proofs.Common.{Bor, ◌≡◌, ℕ, List, [], ◌∷◌, map, get_or, refl, sym, ap, subst, ◌∙◌}
use Rattle.std.specs.List.{All}
use Rattle.std.specs.List.Sorted.{IsPermutation}
use Rattle.std.specs.Cmp.{IsTotalOrder}
use Rattle.std.specs.declared.cmp.Ordering.{Ordering}
use Rattle.std.proofs.lemmas.List.Elements.{All-contains, Contains-get_or}
use Rattle.std.proofs.lemmas.List.Sorted.{Contains-permutation, IsPermutation-map, IsPermutation-sym}
use Rattle.edit.specs.Version.{State}
use Rattle.edit.specs.VersionOrder.{added_from, at_level, files_at, in_version_order}
use Rattle.edit.specs.declared.meta.FileMeta.{FileMeta}
use Rattle.edit.specs.declared.meta.NewFile.{NewFile}
use Rattle.edit.proofs.Snapshots.{one_level}
use Rattle.reads.specs.declared.level_file.LevelFile.{LevelFile}
use Rattle.reads.specs.Tables.{NumberedContents, table_entries}
use Rattle.reads.specs.FileChecks.{IsStatedFile, AreListed, AreInTurn}
use Rattle.reads.specs.FileList.{level_file_in}
use Rattle.reads.specs.TableOrder.{AreAllAdded, AreStandingFiles, lists_of_files}
use Rattle.reads.proofs.Members.{in_map, from_map}
use Rattle.reads.proofs.Listed.{listed_lawful, listed_stated, listed_fall}

-- the files of a level that were lent, as new files
pub level_lent : (cmp : List ℕ → List ℕ → Ordering) (files : List NewFile) (level : ℕ) (items : List (Bor FileMeta)) → map (λ (f : Bor FileMeta). f.now) items ≡ in_version_order cmp (files_at files level) → map (λ (f : Bor FileMeta). at_level level f.now) items ≡ one_level cmp files level
level_lent cmp files level items is = fused items ∙ ap (map (at_level level)) is
  where
    fused : (fs : List (Bor FileMeta)) → map (λ (f : Bor FileMeta). at_level level f.now) fs ≡ map (at_level level) (map (λ (f : Bor FileMeta). f.now) fs)
    fused [] = refl
    fused (f ∷ fs) = ap (λ (t : List NewFile). at_level level f.now ∷ t) (fused fs)

-- what a version states of a file
abbrev meta_of : LevelFile → FileMeta
meta_of f = f.meta.now

metas_of_files : (items : List LevelFile) → map (λ (f : NewFile). f.meta) (map level_file_in items) ≡ map meta_of items
metas_of_files [] = refl
metas_of_files (f ∷ items) = ap (λ (t : List FileMeta). f.meta.now ∷ t) (metas_of_files items)

each_meta : (P : FileMeta → Type 0) (items : List LevelFile) → All (λ (f : LevelFile). P (meta_of f)) items → All P (map meta_of items)
each_meta P items all k d lt =
    let from = from_map meta_of items (get_or (map meta_of items) k d) (Contains-get_or (map meta_of items) k d lt) in
    subst P from.is (All-contains (λ (f : LevelFile). P (meta_of f)) items from.source all from.there)

each_item : (P : FileMeta → Type 0) (items : List LevelFile) → All P (map meta_of items) → All (λ (f : LevelFile). P (meta_of f)) items
each_item P items all k d lt = All-contains P (map meta_of items) (meta_of (get_or items k d)) all (in_map meta_of items (get_or items k d) (Contains-get_or items k d lt))

lists_are : (tables : List NumberedContents) (items : List LevelFile) → lists_of_files tables (map meta_of items) ≡ map (λ (f : LevelFile). table_entries tables f.meta.now.number) items
lists_are tables [] = refl
lists_are tables (f ∷ items) = ap (λ t. table_entries tables f.meta.now.number ∷ t) (lists_are tables items)

-- files in turn stand
pub standing_of : (cmp : List ℕ → List ℕ → Ordering) → IsTotalOrder cmp → (v : State) (items : List LevelFile) (metas : List FileMeta) → AreListed cmp v.files items → AreInTurn cmp items
    → IsPermutation (added_from cmp v.files 0 7) (map level_file_in items) → metas ≡ map (λ (f : LevelFile). f.meta.now) items → AreStandingFiles cmp v metas
standing_of cmp total v items metas listing turn moved are =
    subst (AreStandingFiles cmp v) (sym are) (record {
      permutation = subst (IsPermutation (map (λ (f : NewFile). f.meta) (added_from cmp v.files 0 7))) (metas_of_files items) (IsPermutation-map (λ (f : NewFile). f.meta) (added_from cmp v.files 0 7) (map level_file_in items) moved);
      lawful = λ tables. (
        λ lawful. (
          each_meta (IsStatedFile cmp tables v.next_file) items (listed_stated cmp total v tables items listing lawful),
          listed_fall cmp total v tables items listing lawful turn (lists_of_files tables (map meta_of items)) (lists_are tables items),
        ),
        λ h. listed_lawful cmp total v tables items listing (each_item (IsStatedFile cmp tables v.next_file) items h.0) turn (lists_of_files tables (map meta_of items)) (lists_are tables items) h.1,
      );
    })

-- the listed files are all that were added, level by level
pub all_added : (cmp : List ℕ → List ℕ → Ordering) (v : State) (items : List LevelFile) → AreListed cmp v.files items → IsPermutation (added_from cmp v.files 0 7) (map level_file_in items) → AreAllAdded cmp v
all_added cmp v items listing moved f at =
    Contains-permutation (map level_file_in items) (added_from cmp v.files 0 7) f (IsPermutation-sym (added_from cmp v.files 0 7) (map level_file_in items) moved) (listing.all.all f at)
