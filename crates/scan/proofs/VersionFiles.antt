-- The entries of all files of a version, in any order.
use Rattle.std.proofs.Common.{◌≡◌, ℕ, zero, suc, ◌+◌, List, map, sym, ap, subst, ◌∙◌, inl, inr}
use Rattle.std.specs.Prelude.{Contains}
use Rattle.std.specs.Cmp.{IsTotalOrder}
use Rattle.std.specs.List.Sorted.{IsPermutation}
use Rattle.std.specs.declared.cmp.Ordering.{Ordering}
use Rattle.std.proofs.lemmas.List.Elements.{Contains-append_cases}
use Rattle.std.proofs.lemmas.List.Sorted.{Contains-permutation, IsPermutation-sym}
use Rattle.block.specs.EncodedEntry.{Entry}
use Rattle.merge.specs.MergedLists.{entries_of_lists}
use Rattle.folder.specs.Version.{State}
use Rattle.folder.specs.VersionOrder.{added_from, at_level, files_at, in_version_order}
use Rattle.folder.specs.meta.FileMeta.{FileMeta}
use Rattle.folder.specs.meta.NewFile.{NewFile}
use Rattle.folder.proofs.Snapshots.{added_from-suc, added_from-zero, one_level}
use Rattle.reads.specs.TableOrder.{AreAllAdded, lists_of_files}
use Rattle.reads.specs.Tables.{NumberedContents, all_entries, table_entries}
use Rattle.reads.proofs.Levels.{from_level}
use Rattle.reads.proofs.Members.{from_flat_map, from_map, in_flat_map, in_map, none_in}

module _ (cmp : List ℕ → List ℕ → Ordering) (total : IsTotalOrder cmp) (files : List NewFile) where
  from_one_level : (level : ℕ) (f : NewFile) → Contains (one_level cmp files level) f → Contains files f
  from_one_level level f at =
      let mapped = from_map (at_level level) (in_version_order cmp (files_at files level)) f at in
      let of = from_level cmp total files level mapped.source mapped.there in
      let same : of.file ≡ f = ap (λ (n : ℕ). at_level n of.file.meta) of.stands ∙ ap (at_level level) of.is ∙ mapped.is in
      subst (Contains files) same of.there

  -- what is listed by level is a file of the version
  from_added : (level n : ℕ) (f : NewFile) → Contains (added_from cmp files level n) f → Contains files f
  from_added level zero f at = absurd (none_in f (subst (λ (fs : List NewFile). Contains fs f) (added_from-zero cmp files level) at))
  from_added level (suc n) f at =
      elim (Contains-append_cases (one_level cmp files level) (added_from cmp files (level + 1) n) f (subst (λ (fs : List NewFile). Contains fs f) (added_from-suc cmp files level n) at)) [
        | inl here ↦ from_one_level level f here
        | inr later ↦ from_added (level + 1) n f later
      ]

module _ (cmp : List ℕ → List ℕ → Ordering) (total : IsTotalOrder cmp) (v : State) (standing : List FileMeta) (tables : List NumberedContents)
    (moved : IsPermutation (map (λ (f : NewFile). f.meta) (added_from cmp v.files 0 7)) standing) (added : AreAllAdded cmp v) where
  abbrev metas : List FileMeta
  metas = map (λ (f : NewFile). f.meta) (added_from cmp v.files 0 7)

  abbrev of_file : NewFile → List Entry
  of_file f = table_entries tables f.meta.number

  abbrev of_meta : FileMeta → List Entry
  of_meta f = table_entries tables f.number

  abbrev alone : List Entry → List Entry
  alone list = list

  pub to_standing : (e : Entry) → Contains (all_entries tables v.files) e → Contains (entries_of_lists (lists_of_files tables standing)) e
  to_standing e at =
      let from = from_flat_map of_file v.files e at in
      let meta : Contains standing from.source.meta = Contains-permutation metas standing from.source.meta moved (in_map (λ (f : NewFile). f.meta) (added_from cmp v.files 0 7) from.source (added from.source from.there)) in
      in_flat_map alone (lists_of_files tables standing) (of_meta from.source.meta) e (in_map of_meta standing from.source.meta meta) from.held

  pub from_standing : (e : Entry) → Contains (entries_of_lists (lists_of_files tables standing)) e → Contains (all_entries tables v.files) e
  from_standing e at =
      let from = from_flat_map alone (lists_of_files tables standing) e at in
      let of = from_map of_meta standing from.source from.there in
      let meta : Contains metas of.source = Contains-permutation standing metas of.source (IsPermutation-sym metas standing moved) of.there in
      let file = from_map (λ (f : NewFile). f.meta) (added_from cmp v.files 0 7) of.source meta in
      let held : Contains (of_file file.source) e = subst (λ (m : FileMeta). Contains (of_meta m) e) (sym file.is) (subst (λ (l : List Entry). Contains l e) (sym of.is) from.held) in
      in_flat_map of_file v.files file.source e (from_added cmp total v.files 0 7 file.source file.there) held
