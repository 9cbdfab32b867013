-- The newest entry of a user key that a sequence sees.
use Rattle.std.specs.Prelude.{◌≡◌, ℕ, ◌≤◌, nat_lt, if◌then◌else◌, List, Option, Some, None}
use Rattle.std.specs.Prelude.{Contains}
use Rattle.ikey.specs.declared.kind.Kind.{Kind}
use Rattle.ikey.specs.Key.{user_of, sequence_of, kind_of}
use Rattle.table.specs.EncodedEntry.{Entry}
use Rattle.reads.specs.declared.found_entry.Found.{Found}

-- what is found of an entry: its sequence, kind and value
pub record VisibleEntry : Type 0 where
  pub sequence : ℕ
  pub kind : Kind
  pub value : List ℕ

-- what a search finds of an entry
abbrev pub visible_of : Entry → VisibleEntry
visible_of e = record { sequence = sequence_of e.key; kind = kind_of e.key; value = e.value }

-- what a search found
abbrev pub visible_in : Found → VisibleEntry
visible_in f = record { sequence = f.sequence; kind = f.kind; value = f.value.now }

-- an entry has this user key, and a sequence of at most `at`
abbrev pub IsVisible : List ℕ → ℕ → Entry → Type 0
IsVisible user at e = (user_of e.key ≡ user) × (sequence_of e.key ≤ at)

-- this was found of one of the visible entries, and none of them has a greater sequence
pub record IsNewest (entries : List Entry) (user : List ℕ) (at : ℕ) (seen : VisibleEntry) : Type 0
  where
    pub entry : Entry
    pub there : Contains entries entry
    pub visible : IsVisible user at entry
    pub is : visible_of entry ≡ seen
    pub most : (e : Entry) → Contains entries e → IsVisible user at e →
        sequence_of e.key ≤ seen.sequence

-- what was found is the visible entry of the greatest sequence, or no entry is visible
abbrev pub IsAnswer : List Entry → List ℕ → ℕ → Option VisibleEntry → Type 0
IsAnswer entries user at None = (e : Entry) → Contains entries e → IsVisible user at e → ⊥
IsAnswer entries user at (Some seen) = IsNewest entries user at seen

-- the one of the greater sequence; the first if they are equal
abbrev pub newer_visible : Option VisibleEntry → Option VisibleEntry → Option VisibleEntry
newer_visible None other = other
newer_visible (Some first) None = Some first
newer_visible (Some first) (Some second) = if nat_lt first.sequence second.sequence then Some second
    else Some first
