-- A walk over the user keys of files.
use Rattle.std.specs.Prelude.{◌≡◌, ◌≢◌, ℕ, Bool, false, if◌then◌else◌, List, [], ◌∷◌, map}
use Rattle.std.specs.Prelude.{Contains, Option, Some}
use Rattle.std.specs.Option.{ForSome, option_map, option_map_or, option_to_list}
use Rattle.std.specs.Ordering.{is_lt}
use Rattle.std.specs.Str.{bytes_eq}
use Rattle.std.specs.declared.cmp.Ordering.TheVariants.{Less}
use Rattle.table.specs.Comparator.{KeyOrder}
use Rattle.table.specs.Key.{user_of}
use Rattle.table.specs.EncodedEntry.{Entry}
use Rattle.reads.specs.Boundaries.{KeysRise}
use Rattle.faults.specs.VersionFault.{MisplacedKey}
use Rattle.faults.specs.KeyFaults.{FileEntries, SearchedEntry, break_after, first_break}
use Rattle.faults.specs.KeyFaults.{misplaced_at}
use Rattle.faults.specs.declared.entry_order.EntryOrder.{EntryOrder}
use Rattle.faults.specs.declared.entry_order.EntryOrder.TheVariants.{Begun, Falling, Broken}
use Rattle.faults.specs.declared.key_walk.KeyFault.{KeyFault}

-- a fault of a user key
abbrev pub misplaced_in : KeyFault → MisplacedKey
misplaced_in k = record { user = k.user.items; file = k.file; other = k.other }

-- the first break of a user key's entries, if this is known of those before these
abbrev pub break_of : EntryOrder → List SearchedEntry → Option (ℕ × ℕ)
break_of Begun rest = first_break rest
break_of (Falling file sequence) rest = break_after file sequence rest
break_of (Broken file other) rest = Some (file, other)

-- whether an entry has this user key
abbrev pub is_user : List ℕ → Entry → Bool
is_user user e = bytes_eq (user_of e.key) user

-- the first entries, as long as they have this user key
abbrev pub entries_of_user : List ℕ → List Entry → List Entry
entries_of_user user [] = []
entries_of_user user (e ∷ es) = if is_user user e then e ∷ entries_of_user user es else []

-- the entries after them
abbrev pub entries_after_user : List ℕ → List Entry → List Entry
entries_after_user user [] = []
entries_after_user user (e ∷ es) = if is_user user e then entries_after_user user es else e ∷ es

-- the same of a file
abbrev pub with_user : List ℕ → FileEntries → FileEntries
with_user user f = record { number = f.number; entries = entries_of_user user f.entries }

abbrev pub after_user : List ℕ → FileEntries → FileEntries
after_user user f = record { number = f.number; entries = entries_after_user user f.entries }

-- exactly the user keys of a kind whose entries are not in their order, each once, in the order of
-- the keys
pub record AreMisplacedIn (cmp : KeyOrder) (P : List ℕ → Type 0) (entries : List SearchedEntry)
    (keys : List MisplacedKey) : Type 0 where
  pub rising : KeysRise cmp (map (λ (k : MisplacedKey). k.user) keys)
  pub each : (k : MisplacedKey) → Contains keys k →
      P k.user × (misplaced_at entries k.user ≡ Some k)
  pub all : (user : List ℕ) (k : MisplacedKey) → P user → misplaced_at entries user ≡ Some k →
      Contains keys k

-- a user key is before an upper bound, if there is one
abbrev pub IsBelowBound : KeyOrder → Option (List ℕ) → List ℕ → Type 0
IsBelowBound cmp upper user = ForSome upper (λ bound. cmp user bound ≡ Less)

-- entries have this user key, which is before the upper bound, and none before it
pub record IsNextUser (cmp : KeyOrder) (upper : Option (List ℕ)) (entries : List Entry)
    (user : List ℕ) : Type 0 where
  pub entry : Entry
  pub there : Contains entries entry
  pub is : user_of entry.key ≡ user
  pub least : (e : Entry) → Contains entries e → cmp (user_of e.key) user ≢ Less
  pub within : IsBelowBound cmp upper user

-- no entry has a user key before the upper bound
abbrev pub AreAllFrom : KeyOrder → Option (List ℕ) → List Entry → Type 0
AreAllFrom cmp upper entries =
    (e : Entry) → Contains entries e → IsBelowBound cmp upper (user_of e.key) → ⊥

-- a user key with the break that was found, unless it is before a lower bound
abbrev pub found_keys : KeyOrder → Option (List ℕ) → List ℕ → Option (ℕ × ℕ) → List MisplacedKey
found_keys cmp lower user found =
    if option_map_or (λ limit. is_lt (cmp user limit)) lower false then []
    else option_to_list
    (option_map (λ files. record { user = user; file = files.0; other = files.1 }) found)
