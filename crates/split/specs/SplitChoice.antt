-- The boundaries that are chosen for a wanted number of ranges.
use Rattle.std.specs.Prelude.{◌≡◌, ℕ, zero, suc, ◌<◌, ◌*◌, ◌-◌, ◌/◌, List, [], ◌∷◌, length, map}
use Rattle.std.specs.Prelude.{Some, slice_get, Contains, nat_le, if◌then◌else◌}
use Rattle.std.specs.List.{flat_map}
use Rattle.table.specs.Comparator.{KeyOrder}
use Rattle.table.specs.TableContents.{Contents}
use Rattle.split.specs.Boundaries.{KeysRise}
use Rattle.split.specs.declared.split.TheConstants.{SAMPLE_STEP, RANGE_SAMPLES}

-- the user keys of all index entries
abbrev pub index_users_of : List Contents → List (List ℕ)
index_users_of tables = flat_map (λ table. table.index_users) tables

-- the first key after `skip` others, and from there on each after `gap` others
abbrev pub each_after : ℕ → ℕ → List (List ℕ) → List (List ℕ)
each_after gap skip [] = []
each_after gap zero (key ∷ keys) = key ∷ each_after gap gap keys
each_after gap (suc skip) (key ∷ keys) = each_after gap skip keys

-- every step-th key, the first at place step / 2
abbrev pub every : ℕ → List (List ℕ) → List (List ℕ)
every step keys = each_after (step - 1) (step / 2) keys

-- every step-th key of each list
abbrev pub every_of : ℕ → List (List (List ℕ)) → List (List ℕ)
every_of step lists = flat_map (λ list. every step list) lists

-- A sample of lists of keys, from which boundaries for this many ranges are taken. It is every 16th
-- key of each list if those are at least 4 for each range, and else all keys.
abbrev pub sample_of : ℕ → List (List (List ℕ)) → List (List ℕ)
sample_of want lists =
    if nat_le (RANGE_SAMPLES * want) (length (every_of SAMPLE_STEP lists))
    then every_of SAMPLE_STEP lists
    else flat_map (λ list. list) lists

-- the sample of the user keys of tables' indexes
abbrev pub index_sample_of : ℕ → List Contents → List (List ℕ)
index_sample_of want tables = sample_of want (map (λ table. table.index_users) tables)

-- exactly the keys of which the fact holds, each once, in order
pub record IsListOf (cmp : KeyOrder) (Fact : List ℕ → Type 0) (keys : List (List ℕ)) : Type 0 where
  pub rising : KeysRise cmp keys
  pub all : (key : List ℕ) → Fact key → Contains keys key
  pub only : (key : List ℕ) → Contains keys key → Fact key

-- the key at place j * m / want, rounded down, of m keys
abbrev pub IsAtPlace : List (List ℕ) → ℕ → ℕ → List ℕ → Type 0
IsAtPlace keys want j key = slice_get keys (j * length keys / want) ≡ Some key

-- the key at such a place, for some j from 1 to below this number
abbrev pub IsAtPlaceBelow : List (List ℕ) → ℕ → ℕ → List ℕ → Type 0
IsAtPlaceBelow keys want number key = (j : ℕ) × (0 < j) × (j < number) × IsAtPlace keys want j key

-- The boundaries for this many ranges. Take the list of all m user keys, each once and in order.
-- The boundaries are the keys at the places j * m / want for j from 1 to want - 1, each once.
pub record IsChoice (cmp : KeyOrder) (users : List (List ℕ)) (want : ℕ) (boundaries : List (List ℕ))
    : Type 0 where
  pub keys : List (List ℕ)
  pub each_once : IsListOf cmp (Contains users) keys
  pub at_places : IsListOf cmp (IsAtPlaceBelow keys want want) boundaries

-- user keys and a wanted number have at most one choice of boundaries
abbrev pub OneChoiceLaw : KeyOrder → Type 0
OneChoiceLaw cmp =
    (users : List (List ℕ)) (want : ℕ) (boundaries others : List (List ℕ)) →
    IsChoice cmp users want boundaries → IsChoice cmp users want others → boundaries ≡ others
