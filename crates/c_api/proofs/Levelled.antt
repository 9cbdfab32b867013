-- The levels of files.
use Rattle.std.proofs.Common.{◌≡◌, ℕ, ◌≤◌, true, List, [], ◌∷◌, map, sym, subst, arith}
use Rattle.std.specs.Prelude.{nat_le}
use Rattle.std.specs.List.{All, list_all}
use Rattle.std.proofs.lemmas.Bool.{and_parts, leb-true}
use Rattle.std.proofs.lemmas.List.Elements.{All-nil, All-cons}
use Rattle.edit.specs.Edit.{Edit, HasValidLevels}
use Rattle.edit.specs.declared.meta.CompactPointer.{CompactPointer}
use Rattle.edit.specs.declared.meta.DeletedFile.{DeletedFile}
use Rattle.edit.specs.declared.meta.NewFile.{NewFile}
use Rattle.edit.specs.declared.meta.TheConstants.{LAST_LEVEL}
use Rattle.std.specs.List.{fold}
use Rattle.std.specs.BTreeSet.{insert_key}
use Rattle.std.proofs.lemmas.Map.Views.{All-insert_key}
use Rattle.edit.specs.Edit.{deleted_cmp}
use Rattle.compact.specs.EditOf.{deletion_of, deletions_of}
use Rattle.c_api.specs.Edits.{have_levels}
use Rattle.c_api.specs.Requests.{input_file}
use Rattle.c_api.specs.Closed.{are_files, is_file, new_file}
use Rattle.c_api.specs.Files.{has_keys}
use Rattle.c_api.specs.declared.file.File.{File}

-- files whose levels were tested have levels up to 6
pub levelled : (keys : List ℕ) (files : List File) → are_files keys files ≡ true → All (λ (f : NewFile). f.level ≤ LAST_LEVEL) (map (new_file keys) files)
levelled keys [] h = All-nil (λ (f : NewFile). f.level ≤ LAST_LEVEL)
levelled keys (f ∷ files) h =
    let parts = and_parts (is_file keys f) (list_all (is_file keys) files) h in
    let own = and_parts (has_keys keys f) (nat_le f.level LAST_LEVEL) parts.0 in
    All-cons (λ (x : NewFile). x.level ≤ LAST_LEVEL) (new_file keys f) (map (new_file keys) files) (leb-true f.level LAST_LEVEL own.1) (levelled keys files parts.1)

-- an edit that only adds such files has valid levels
pub levels_adding : (keys : List ℕ) (files : List File) (e : Edit) → are_files keys files ≡ true → e.pointers ≡ [] → e.deleted ≡ [] → e.added ≡ map (new_file keys) files → HasValidLevels e
levels_adding keys files e h pointers deleted added = record {
  pointers = subst (λ (l : List CompactPointer). All (λ (x : CompactPointer). x.level ≤ LAST_LEVEL) l) (sym pointers) (All-nil (λ (x : CompactPointer). x.level ≤ LAST_LEVEL));
  deleted = subst (λ (l : List DeletedFile). All (λ (x : DeletedFile). x.level ≤ LAST_LEVEL) l) (sym deleted) (All-nil (λ (x : DeletedFile). x.level ≤ LAST_LEVEL));
  added = subst (λ (l : List NewFile). All (λ (x : NewFile). x.level ≤ LAST_LEVEL) l) (sym added) (levelled keys files h);
}

-- the deletions of files with levels up to 6
low_deletions : (keys : List ℕ) (done : List DeletedFile) (files : List File) → All (λ (d : DeletedFile). d.level ≤ LAST_LEVEL) done → have_levels files ≡ true
    → All (λ (d : DeletedFile). d.level ≤ LAST_LEVEL) (fold (insert_key deleted_cmp) done (map deletion_of (map (input_file keys) files)))
low_deletions keys done [] all h = all
low_deletions keys done (f ∷ files) all h =
    let parts = and_parts (nat_le f.level LAST_LEVEL) (have_levels files) h in
    let d : DeletedFile = deletion_of (input_file keys f) in
    low_deletions keys (insert_key deleted_cmp done d) files (All-insert_key deleted_cmp d (λ (x : DeletedFile). x.level ≤ LAST_LEVEL) done all (leb-true f.level LAST_LEVEL parts.0)) parts.1

-- an edit that deletes such files, adds such files and sets a pointer has valid levels
pub levels_of_edit : (keys : List ℕ) (files added : List File) (pointer : CompactPointer) (e : Edit) → pointer.level ≤ 5 → have_levels files ≡ true → are_files keys added ≡ true
    → e.pointers ≡ pointer ∷ [] → e.deleted ≡ deletions_of (map (input_file keys) files) → e.added ≡ map (new_file keys) added → HasValidLevels e
levels_of_edit keys files added pointer e low h a pointers deleted these = record {
  pointers = subst (λ (l : List CompactPointer). All (λ (x : CompactPointer). x.level ≤ LAST_LEVEL) l) (sym pointers)
      (All-cons (λ (x : CompactPointer). x.level ≤ LAST_LEVEL) pointer [] (omega (arith, low)) (All-nil (λ (x : CompactPointer). x.level ≤ LAST_LEVEL)));
  deleted = subst (λ (l : List DeletedFile). All (λ (x : DeletedFile). x.level ≤ LAST_LEVEL) l) (sym deleted) (low_deletions keys [] files (All-nil (λ (x : DeletedFile). x.level ≤ LAST_LEVEL)) h);
  added = subst (λ (l : List NewFile). All (λ (x : NewFile). x.level ≤ LAST_LEVEL) l) (sym these) (levelled keys added a);
}
