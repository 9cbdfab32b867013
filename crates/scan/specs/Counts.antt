-- How much is counted, entry by entry and range by range.
use Rattle.std.specs.Prelude.{◌≡◌, ℕ, ◌+◌, ◌-◌, ◌^◌, ◌<◌, ◌≤◌, nat_eq, min, Bool, false, ◌&&◌}
use Rattle.std.specs.Prelude.{if◌then◌else◌, List, [], length, slice_index_or, slice_set, Option}
use Rattle.std.specs.List.{count_by, sum_by}
use Rattle.std.specs.Str.{bytes_eq}
use Rattle.table.specs.Saturated.{saturated}
use Rattle.table.specs.Comparator.{KeyOrder}
use Rattle.reads.specs.kind.Kind.{Kind}
use Rattle.table.specs.Key.{user_of, sequence_of, kind_of}
use Rattle.block.specs.EncodedEntry.{Entry}
use Rattle.folder.specs.meta.FileMeta.{FileMeta}
use Rattle.merge.specs.MergedLists.{entries_of_lists}
use Rattle.merge.specs.CursorsLeft.{is_before}
use Rattle.scan.specs.EntryRows.{decided_after, is_decided}
use Rattle.scan.specs.HiddenEntries.{is_delete, is_deletion_entry, is_hidden_among}
use Rattle.scan.specs.Stats.{amounts_plus, no_amounts}
use Rattle.scan.specs.declared.amounts.Amounts.{Amounts}

-- ---- numbers that fit

-- The sums of two amounts. Those of files and bytes saturate at 2 ^ 64 - 1, those of entries at
-- 2 ^ 128 - 1.
abbrev pub capped_plus : Amounts → Amounts → Amounts
capped_plus a b = record {
  files = saturated (a.files + b.files);
  bytes = saturated (a.bytes + b.bytes);
  entries = min (a.entries + b.entries) (2 ^ 128 - 1);
  deletions = min (a.deletions + b.deletions) (2 ^ 128 - 1);
  hidden = min (a.hidden + b.hidden) (2 ^ 128 - 1);
}

-- each number fits
pub record IsWithin (a : Amounts) : Type 0 where
  pub files : a.files ≤ 2 ^ 64 - 1
  pub bytes : a.bytes ≤ 2 ^ 64 - 1
  pub entries : a.entries ≤ 2 ^ 128 - 1
  pub deletions : a.deletions ≤ 2 ^ 128 - 1
  pub hidden : a.hidden ≤ 2 ^ 128 - 1

-- ---- entries

-- one entry
abbrev pub entry_amounts : Kind → Bool → Amounts
entry_amounts kind hidden = record {
  files = 0;
  bytes = 0;
  entries = 1;
  deletions = if is_delete kind then 1 else 0;
  hidden = if hidden then 1 else 0;
}

-- files without their entries; the bytes saturate at 2 ^ 64 - 1
abbrev pub capped_files : List FileMeta → Amounts
capped_files files = record {
  files = length files;
  bytes = saturated (sum_by (λ f. f.size) files);
  entries = 0;
  deletions = 0;
  hidden = 0;
}

-- entries, of which these are hidden
abbrev pub counted : (Entry → Bool) → List Entry → Amounts
counted hidden es = record {
  files = 0;
  bytes = 0;
  entries = length es;
  deletions = count_by is_deletion_entry es;
  hidden = count_by hidden es;
}

-- whether an entry has this user key and this sequence
abbrev pub is_version : List ℕ → ℕ → Entry → Bool
is_version user sequence e =
    bytes_eq (user_of e.key) user && nat_eq (sequence_of e.key) sequence

-- no user key has one sequence twice
abbrev pub AreOnce : List Entry → Type 0
AreOnce es = (user : List ℕ) (sequence : ℕ) → count_by (is_version user sequence) es ≤ 1

-- ---- the entries of several lists

abbrev pub amounts_at : List Amounts → ℕ → Amounts
amounts_at amounts i = slice_index_or amounts i no_amounts

abbrev pub list_at : List (List Entry) → ℕ → List Entry
list_at lists i = slice_index_or lists i []

-- that many more entries can be counted, each as a deletion and as hidden too
pub record HasRoom (a : Amounts) (more : ℕ) : Type 0 where
  pub files : a.files ≤ 2 ^ 64 - 1
  pub bytes : a.bytes ≤ 2 ^ 64 - 1
  pub entries : a.entries + more ≤ 2 ^ 128 - 1
  pub deletions : a.deletions + more ≤ 2 ^ 128 - 1
  pub hidden : a.hidden + more ≤ 2 ^ 128 - 1

-- the amounts at each place have the entries of the list at this place more
pub record HaveMore (hidden : Entry → Bool) (lists : List (List Entry)) (old new : List Amounts)
    : Type 0 where
  pub number : length new ≡ length old
  pub each : (i : ℕ) → i < length lists →
      amounts_at new i ≡ amounts_plus (amounts_at old i) (counted hidden (list_at lists i))

-- The entries of lists were counted, each list at its place, and those hidden among all of them: if
-- no user key has one sequence twice, and the numbers fit.
abbrev pub AreAmountsCounted : ℕ → List (List Entry) → List Amounts → List Amounts → Type 0
AreAmountsCounted last lists old new =
    AreOnce (entries_of_lists lists) →
    ((i : ℕ) → i < length lists → HasRoom (amounts_at old i) (length (list_at lists i))) →
    HaveMore (is_hidden_among last (entries_of_lists lists)) lists old new

-- ---- one entry of a walk

-- the amounts after the next entry, which is at this place: it counts if it isn't before the range
abbrev pub amounts_after : KeyOrder → Option (List ℕ) → ℕ → Option (List ℕ) → Entry →
    List Amounts → List Amounts
amounts_after cmp lower place decided e amounts = if is_before cmp lower false e then amounts else
    slice_set amounts place (capped_plus (amounts_at amounts place)
    (entry_amounts (kind_of e.key) (is_decided decided (user_of e.key))))

-- the user key that is decided after it
abbrev pub decided_then : KeyOrder → Option (List ℕ) → ℕ → Option (List ℕ) → Entry →
    Option (List ℕ)
decided_then cmp lower last decided e = if is_before cmp lower false e then decided else
    decided_after last decided e
