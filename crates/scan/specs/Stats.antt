-- How much a version has at its levels.
use Rattle.std.specs.Prelude.{ℕ, ◌+◌, List, [], ◌∷◌, length, fold, if◌then◌else◌}
use Rattle.std.specs.Prelude.{unwrap_or}
use Rattle.std.specs.List.{count_by, sum_by}
use Rattle.std.specs.Ordering.{is_lt}
use Rattle.table.specs.Saturated.{saturated}
use Rattle.table.specs.Comparator.{KeyOrder}
use Rattle.table.specs.Order.{internal_cmp}
use Rattle.block.specs.EncodedEntry.{Entry}
use Rattle.folder.specs.Version.{State}
use Rattle.folder.specs.VersionOrder.{level_files}
use Rattle.folder.specs.meta.FileMeta.{FileMeta}
use Rattle.folder.specs.Levels.{all_levels}
use Rattle.merge.specs.MergedLists.{entries_of_lists}
use Rattle.reads.specs.TableOrder.{lists_of_files}
use Rattle.reads.specs.Tables.{NumberedContents, all_entries}
use Rattle.scan.specs.HiddenEntries.{is_deletion_entry, is_hidden_among}
use Rattle.scan.specs.declared.amounts.Amounts.{Amounts}
use Rattle.scan.specs.declared.level_stats.LevelStats.{LevelStats}
use Rattle.scan.specs.declared.level_stats.VersionStats.{VersionStats}

-- no file and no entry
abbrev pub no_amounts : Amounts
no_amounts = record { files = 0; bytes = 0; entries = 0; deletions = 0; hidden = 0 }

-- two amounts together
abbrev pub amounts_plus : Amounts → Amounts → Amounts
amounts_plus a b = record {
  files = a.files + b.files;
  bytes = a.bytes + b.bytes;
  entries = a.entries + b.entries;
  deletions = a.deletions + b.deletions;
  hidden = a.hidden + b.hidden;
}

-- all of them together
abbrev pub amounts_sum : List Amounts → Amounts
amounts_sum [] = no_amounts
amounts_sum (a ∷ amounts) = amounts_plus a (amounts_sum amounts)

-- the entries of the tables of files
abbrev pub entries_of_files : List NumberedContents → List FileMeta → List Entry
entries_of_files tables files = entries_of_lists (lists_of_files tables files)

-- how much files and their tables have, if the version has these entries in all and this last
-- sequence
abbrev pub amounts_of : ℕ → List Entry → List NumberedContents → List FileMeta → Amounts
amounts_of last all tables files = record {
  files = length files;
  bytes = sum_by (λ f. f.size) files;
  entries = length (entries_of_files tables files);
  deletions = count_by is_deletion_entry (entries_of_files tables files);
  hidden = count_by (is_hidden_among last all) (entries_of_files tables files);
}

-- how much a version has at a level
abbrev pub level_amounts : KeyOrder → State → List NumberedContents → ℕ → Amounts
level_amounts cmp v tables level = amounts_of (unwrap_or v.last_sequence 0)
    (all_entries tables v.files) tables (level_files cmp v level)

-- what is told of amounts: the bytes saturate at 2 ^ 64 - 1
abbrev pub told_amounts : Amounts → Amounts
told_amounts a = record {
  files = a.files;
  bytes = saturated a.bytes;
  entries = a.entries;
  deletions = a.deletions;
  hidden = a.hidden;
}

-- the larger of a key and a file's largest one
abbrev pub larger_key : KeyOrder → List ℕ → FileMeta → List ℕ
larger_key cmp key f = if is_lt (internal_cmp cmp key f.largest) then f.largest else key

-- What is told of a level with these files in version order, which is by smallest key: nothing if
-- there is no file.
abbrev pub level_stats : KeyOrder → ℕ → Amounts → List FileMeta → List LevelStats
level_stats cmp level amounts [] = []
level_stats cmp level amounts (f ∷ files) = record {
  level = level;
  amounts = amounts;
  smallest = f.smallest;
  largest = fold (larger_key cmp) f.largest files;
} ∷ []

-- what a version has at each level that has a file, and in all
pub record Stats : Type 0 where
  pub levels : List LevelStats
  pub all : Amounts

abbrev pub version_stats : KeyOrder → State → List NumberedContents → Stats
version_stats cmp v tables = record {
  levels = all_levels (λ level.
      level_stats cmp level (told_amounts (level_amounts cmp v tables level))
      (level_files cmp v level));
  all = told_amounts (amounts_sum (all_levels (λ level. level_amounts cmp v tables level ∷ [])));
}

-- how contracts see what is answered
abbrev pub seen_stats : VersionStats → Stats
seen_stats s = record { levels = s.levels.items; all = s.all }
