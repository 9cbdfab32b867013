-- What a merge of a range leaves of the cursors.
use Rattle.std.specs.Prelude.{◌≡◌, ◌⊎◌, ℕ, Bool, true, false, not, ◌||◌}
use Rattle.std.specs.Prelude.{List, [], ◌∷◌, ◌++◌, map, filter, Option}
use Rattle.std.specs.List.{AllByRecursion}
use Rattle.table.specs.Key.{user_of}
use Rattle.table.specs.Comparator.{KeyOrder}
use Rattle.table.specs.EncodedEntry.{Entry}
use Rattle.split.specs.Bounds.{is_user_before}
use Rattle.split.specs.Ranges.{KeyRange}

-- whether an entry's user key is before a bound; `otherwise` if there is no bound
abbrev pub is_before : KeyOrder → Option (List ℕ) → Bool → Entry → Bool
is_before cmp bound otherwise e = is_user_before cmp bound otherwise (user_of e.key)

-- whether a walk of a range passes an entry: its user key is before the lower bound or before the
-- upper one; without an upper bound all are passed
abbrev pub is_passed : KeyOrder → KeyRange → Entry → Bool
is_passed cmp range e = is_before cmp range.lower false e || is_before cmp range.upper true e

-- of each list the entries after a range
abbrev pub each_past_range : KeyOrder → KeyRange → List (List Entry) → List (List Entry)
each_past_range cmp range lists = map (λ entries. filter (λ e. not (is_passed cmp range e)) entries)
    lists

-- the new list has the entries of the old one in their order, less some that pass the test
abbrev pub LosesOnly : (Entry → Bool) → List Entry → List Entry → Type 0
LosesOnly test [] new = new ≡ []
LosesOnly test (e ∷ es) new =
    ((test e ≡ true) × LosesOnly test es new)
    ⊎ ((left : List Entry) × ((new ≡ e ∷ left) × LosesOnly test es left))

-- each new list has the entries of its old one in their order, less some that pass the test
abbrev pub EachLosesOnly : (Entry → Bool) → List (List Entry) → List (List Entry) → Type 0
EachLosesOnly test [] [] = Unit {0}
EachLosesOnly test [] (new ∷ news) = ⊥
EachLosesOnly test (old ∷ olds) [] = ⊥
EachLosesOnly test (old ∷ olds) (new ∷ news) = LosesOnly test old new × EachLosesOnly test olds news

-- the new list is the old one without its first entries, each of which passes the test
pub record LosesFirst (test : Entry → Bool) (old new : List Entry) : Type 0 where
  pub gone : List Entry
  pub whole : old ≡ gone ++ new
  pub passed : AllByRecursion (λ e. test e ≡ true) gone

-- each new list is its old one without its first entries, each of which passes the test
abbrev pub EachLosesFirst : (Entry → Bool) → List (List Entry) → List (List Entry) → Type 0
EachLosesFirst test [] [] = Unit {0}
EachLosesFirst test [] (new ∷ news) = ⊥
EachLosesFirst test (old ∷ olds) [] = ⊥
EachLosesFirst test (old ∷ olds) (new ∷ news) =
    LosesFirst test old new × EachLosesFirst test olds news
