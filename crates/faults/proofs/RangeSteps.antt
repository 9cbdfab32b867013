-- One range of user keys, and the keys that are told of it.
use Rattle.std.proofs.Common.{◌≡◌, ℕ, suc, ◌+◌, ◌-◌, ◌<◌, true, List, [], ◌++◌, map, get_or, sym, ap, ◌∙◌, arith, add-one}
use Rattle.std.specs.Prelude.{filter}
use Rattle.std.specs.Cmp.{IsTotalOrder}
use Rattle.std.proofs.lemmas.List.{map-append}
use Rattle.std.proofs.lemmas.List.Elements.{All-contains, Contains-get_or}
use Rattle.table.specs.Comparator.{KeyOrder}
use Rattle.folder.specs.meta.FileMeta.{FileMeta}
use Rattle.folder.proofs.LoadingLemmas.{map_fused}
use Rattle.folder.specs.Calls.{Files}
use Rattle.reads.specs.Ranges.{IsIn, KeyRange, range_at}
use Rattle.reads.specs.Tables.{NumberedContents}
use Rattle.reads.proofs.Members.{from_filter}
use Rattle.checks.specs.HeldTables.{AreFound}
use Rattle.checks.specs.NeededFiles.{is_file_needed}
use Rattle.checks.proofs.FileTables.{numbers_in}
use Rattle.faults.specs.VersionFault.{MisplacedKey, VersionFault, OfKey}
use Rattle.faults.specs.KeyFaults.{FileEntries, is_of, is_sound, read_file, searched_of}
use Rattle.faults.specs.KeyWalk.{AreMisplacedIn, misplaced_in}
use Rattle.faults.specs.RangeKeys.{AreSoundIn, keys_from, keys_in}
use Rattle.faults.specs.declared.key_walk.KeyFault.{KeyFault}
use Rattle.faults.proofs.RangeEntries.{all_found, found_files, misplaced_same, needed_same, table_file}

-- ---- the tables of a range

module _ (cmp : KeyOrder) (total : IsTotalOrder cmp) (range : KeyRange) (files : Files) (standing : List FileMeta) (sound : AreSoundIn cmp files standing) where
  abbrev needed : List FileMeta
  needed = filter (is_file_needed cmp range) standing

  some_sound : AreSoundIn cmp files needed
  some_sound k d lt =
      All-contains (λ (f : FileMeta). is_sound cmp files f ≡ true) standing (get_or needed k d) sound (from_filter (is_file_needed cmp range) standing (get_or needed k d) (Contains-get_or needed k d lt)).0

  -- they are found
  pub never_unfound : ((found : List NumberedContents) → AreFound cmp files (numbers_in needed) found → ⊥) → ⊥
  never_unfound none = let all = all_found cmp total range files needed some_sound in none all.0 all.1

  -- and have the keys of all
  pub range_keys : (found : List NumberedContents) (keys : List MisplacedKey) → AreFound cmp files (numbers_in needed) found → AreMisplacedIn cmp (IsIn cmp range) (searched_of (map table_file found)) keys
      → AreMisplacedIn cmp (IsIn cmp range) (searched_of (map (read_file cmp files) standing)) keys
  range_keys found keys there are =
      misplaced_same cmp (IsIn cmp range) (searched_of (map table_file found)) (searched_of (map (read_file cmp files) standing)) keys
      (λ user within.
      ap (λ (fs : List FileEntries). filter (is_of user) (searched_of fs)) (found_files cmp total range files needed found there)
      ∙ needed_same cmp total range files user within standing sound) are

-- ---- the ranges that are left

module _ (cmp : KeyOrder) (boundaries : List (List ℕ)) (keys : List MisplacedKey) where
  left : (all i : ℕ) → i < all → keys_from cmp boundaries keys i (all - i) ≡ keys_in cmp (range_at boundaries i) keys ++ keys_from cmp boundaries keys (i + 1) (all - (i + 1))
  left all i lt =
      let next : all - i ≡ suc (all - (i + 1)) = omega arith in
      ap (λ (n : ℕ). keys_from cmp boundaries keys i n) next
      ∙ ap (λ (j : ℕ). keys_in cmp (range_at boundaries i) keys ++ keys_from cmp boundaries keys j (all - (i + 1))) (sym (add-one i))

  pub told_left : (all i : ℕ) (own : List KeyFault) → i < all → map misplaced_in own ≡ keys_in cmp (range_at boundaries i) keys
      → map OfKey (keys_from cmp boundaries keys i (all - i)) ≡ map (λ k. OfKey (misplaced_in k)) own ++ map OfKey (keys_from cmp boundaries keys (i + 1) (all - (i + 1)))
  told_left all i own lt is =
      let rest : List MisplacedKey = keys_from cmp boundaries keys (i + 1) (all - (i + 1)) in
      ap (map OfKey) (left all i lt ∙ ap (λ (ks : List MisplacedKey). ks ++ rest) (sym is))
      ∙ map-append OfKey (map misplaced_in own) rest
      ∙ ap (λ (fs : List VersionFault). fs ++ map OfKey rest) (sym (map_fused misplaced_in OfKey own))

  pub none_left : (all i : ℕ) → all ≡ i → keys_from cmp boundaries keys i (all - i) ≡ []
  none_left all i same = let none : all - i ≡ 0 = omega arith in ap (λ (n : ℕ). keys_from cmp boundaries keys i n) none
