-- The verdict on a version, by the list of its files.
use Rattle.std.proofs.Common.{◌≡◌, ℕ, ◌<◌, Bool, true, false, List, [], ◌∷◌, ◌++◌, length, map, get_or, Ok, refl, sym, ap, subst, ◌∙◌, inr}
use Rattle.std.specs.Prelude.{Contains}
use Rattle.std.specs.List.{All}
use Rattle.std.specs.Option.{is_some}
use Rattle.std.specs.Cmp.{IsTotalOrder}
use Rattle.std.specs.declared.cmp.Ordering.{Ordering}
use Rattle.std.proofs.lemmas.List.Elements.{All-contains, Contains-get_or}
use Rattle.ikey.specs.Answers.{fault, UnlessMemory}
use Rattle.ikey.specs.fault.Fault.{Fault}
use Rattle.ikey.specs.fault.FaultName.TheVariants.{Lawless}
use Rattle.table.specs.EncodedEntry.{Entry}
use Rattle.merge.specs.MergedLists.{entries_of_lists}
use Rattle.edit.specs.Version.{State}
use Rattle.edit.specs.declared.meta.NewFile.{NewFile}
use Rattle.reads.specs.declared.level_file.LevelFile.{LevelFile}
use Rattle.reads.specs.Tables.{NumberedContents, table_of_number, table_entries, all_entries, tables_test}
use Rattle.reads.specs.Lawful.{IsLawful, IsUnlawful}
use Rattle.reads.specs.FileChecks.{IsStatedFile, AreListed, AreInTurn}
use Rattle.reads.specs.FileList.{level_file_in}
use Rattle.reads.specs.TableOrder.{AreFalling}
use Rattle.reads.proofs.Members.{in_map, from_map}
use Rattle.reads.proofs.Levels.{all_at, done_is}
use Rattle.reads.proofs.Pairs.{Pairs}
use Rattle.reads.proofs.OrderedFiles.{Before}
use Rattle.reads.proofs.FileOrder.{is_range, before_pairs}
use Rattle.reads.proofs.LawfulVersions.{lawful_of, is_as_stated, stand_in_turn, entries_fall}

-- the entries of the files' tables, one after the other
joined_entries : (tables : List NumberedContents) (items : List LevelFile) → entries_of_lists (map (λ (f : LevelFile). table_entries tables f.meta.now.number) items) ≡ all_entries tables (map level_file_in items)
joined_entries tables [] = refl
joined_entries tables (f ∷ items) = ap (λ (es : List Entry). table_entries tables f.meta.now.number ++ es) (joined_entries tables items)

module _ (cmp : List ℕ → List ℕ → Ordering) (total : IsTotalOrder cmp) (v : State) (tables : List NumberedContents) (items : List LevelFile) (listing : AreListed cmp v.files items) where
  there : (k : ℕ) (d : LevelFile) → k < length items → Contains v.files (level_file_in (get_or items k d))
  there k d lt = listing.all.only (level_file_in (get_or items k d)) (in_map level_file_in items (get_or items k d) (Contains-get_or items k d lt))

  pub each_there : tables_test tables v.files ≡ Ok tt → All (λ (f : LevelFile). is_some (table_of_number tables f.meta.now.number) ≡ true) items
  each_there test k d lt = all_at (λ (f : NewFile). is_some (table_of_number tables f.meta.number)) v.files (level_file_in (get_or items k d)) (done_is _ test) (there k d lt)

  abbrev pub Stated : LevelFile → Type 0
  Stated f = IsStatedFile cmp tables v.next_file f.meta.now

  stated_at : All Stated items → (f : NewFile) → Contains (map level_file_in items) f → IsStatedFile cmp tables v.next_file f.meta
  stated_at stated f at =
      let from = from_map level_file_in items f at in
      let own : Stated from.source = All-contains Stated items from.source stated from.there in
      subst (λ (g : NewFile). IsStatedFile cmp tables v.next_file g.meta) from.is own

  before : All Stated items → AreInTurn cmp items → Pairs (Before cmp) (map level_file_in items)
  before stated turn = before_pairs cmp total items (λ f at. is_range cmp total tables v.next_file f (stated_at stated f at)) turn

  pub listed_lawful : All Stated items → AreInTurn cmp items → (lists : List (List Entry)) → lists ≡ map (λ (f : LevelFile). table_entries tables f.meta.now.number) items → AreFalling (entries_of_lists lists) → IsLawful cmp v tables
  listed_lawful stated turn lists is falling =
      lawful_of cmp total v tables (map level_file_in items) listing.all (stated_at stated) (before stated turn) (subst AreFalling (ap entries_of_lists is ∙ joined_entries tables items) falling)

  -- if a test of all that a lawful version has fails, the version isn't lawful
  pub not_lawful : (P : Type 0) (b : Bool) (e : Fault) → tables_test tables v.files ≡ Ok tt → e ≡ fault Lawless → (P → b ≡ true) → b ≡ false → (IsLawful cmp v tables → P) → UnlessMemory e (IsUnlawful cmp v tables e)
  not_lawful P b e test is told untrue follows =
      let refuted : IsLawful cmp v tables → ⊥ = λ lawful. absurd (no_both (told (follows lawful)) untrue) in
      subst (λ (x : Fault). UnlessMemory x (IsUnlawful cmp v tables x)) (sym is) (inr (test, refl, refuted))
    where
      no_both : b ≡ true → b ≡ false → ⊥
      no_both test untrue = let both : true ≡ false = sym test ∙ untrue in absurd cc

  pub listed_stated : IsLawful cmp v tables → All Stated items
  listed_stated lawful k d lt = is_as_stated cmp total v tables lawful (level_file_in (get_or items k d)) (there k d lt)

  pub listed_in_turn : IsLawful cmp v tables → AreInTurn cmp items
  listed_in_turn lawful = stand_in_turn cmp total v tables lawful items listing

  pub listed_fall : IsLawful cmp v tables → AreInTurn cmp items → (lists : List (List Entry)) → lists ≡ map (λ (f : LevelFile). table_entries tables f.meta.now.number) items → AreFalling (entries_of_lists lists)
  listed_fall lawful turn lists is =
      subst AreFalling (sym (joined_entries tables items) ∙ ap entries_of_lists (sym is)) (entries_fall cmp total v tables lawful items listing (before (listed_stated lawful) turn))
