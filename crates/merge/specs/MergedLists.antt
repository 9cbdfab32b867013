-- The sorted merge of lists of entries.
use Rattle.std.specs.Prelude.{◌≡◌, ℕ, Bool, if◌then◌else◌, List, [], ◌∷◌, filter}
use Rattle.std.specs.List.{flat_map}
use Rattle.std.specs.Ordering.{is_eq, is_lt}
use Rattle.table.specs.EncodedEntry.{Entry}
use Rattle.table.specs.Order.{internal_cmp}
use Rattle.table.specs.Comparator.{KeyOrder}
use Rattle.table.specs.EntriesFrom.{NeverFalls}

-- the entry put into a sorted list, before the first entry that isn't below it
abbrev pub entries_with : KeyOrder → Entry → List Entry → List Entry
entries_with cmp e [] = e ∷ []
entries_with cmp e (f ∷ fs) = if is_lt (internal_cmp cmp f.key e.key) then f ∷ entries_with cmp e fs
    else e ∷ (f ∷ fs)

-- entries in the order of their internal keys, those of one key in the order they had
abbrev pub sorted_entries : KeyOrder → List Entry → List Entry
sorted_entries cmp [] = []
sorted_entries cmp (e ∷ es) = entries_with cmp e (sorted_entries cmp es)

-- the entries of all lists, one list after the other
abbrev pub entries_of_lists : List (List Entry) → List Entry
entries_of_lists lists = flat_map (λ list. list) lists

-- The sorted merge of lists: the entries of all of them in the order of their internal keys, those
-- of one key in the order of the lists.
abbrev pub merged : KeyOrder → List (List Entry) → List Entry
merged cmp lists = sorted_entries cmp (entries_of_lists lists)

-- whether an entry has this internal key
abbrev pub has_key : KeyOrder → List ℕ → Entry → Bool
has_key cmp key e = is_eq (internal_cmp cmp e.key key)

-- What a sorted merge of lists is, however it is made. It never falls. Of each internal key it has
-- just the entries that the lists have, in the order of the lists.
pub record IsMerge (cmp : KeyOrder) (lists : List (List Entry)) (merge : List Entry) : Type 0 where
  pub ordered : NeverFalls cmp merge
  pub same : (key : List ℕ) → filter (has_key cmp key) merge
      ≡ filter (has_key cmp key) (entries_of_lists lists)

-- any lists have one sorted merge, which is `merged`
pub record MergeLaw (cmp : KeyOrder) : Type 0 where
  pub is_merge : (lists : List (List Entry)) → IsMerge cmp lists (merged cmp lists)
  pub one : (lists : List (List Entry)) (merge : List Entry) → IsMerge cmp lists merge →
      merge ≡ merged cmp lists
