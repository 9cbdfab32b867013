-- A tournament of lists: the list whose first entry comes first wins each match.
use Rattle.std.specs.Prelude.{◌≡◌, ◌⊎◌, ℕ, zero, suc, ◌+◌, ◌-◌, ◌*◌, ◌/◌, ◌^◌, ◌<◌, ◌≤◌, List, []}
use Rattle.std.specs.Prelude.{◌∷◌, length, slice_index, slice_index_or, set}
use Rattle.std.specs.List.{AllByRecursion}
use Rattle.std.specs.declared.cmp.Ordering.TheVariants.{Less, Equal}
use Rattle.table.specs.EncodedEntry.{Entry}
use Rattle.table.specs.Key.{user_of}
use Rattle.table.specs.Order.{internal_cmp}
use Rattle.table.specs.Comparator.{KeyOrder}
use Rattle.table.specs.EntriesFrom.{NeverFalls}

-- The first list wins, or is the other one: its first key is smaller, or equal at a place that
-- isn't higher. A list without an entry loses against one with an entry.
abbrev pub IsAhead : KeyOrder → ℕ → List Entry → ℕ → List Entry → Type 0
IsAhead cmp place list other [] = Unit {0}
IsAhead cmp place [] other (f ∷ fs) = ⊥
IsAhead cmp place (e ∷ es) other (f ∷ fs) = (internal_cmp cmp e.key f.key ≡ Less)
    ⊎ ((internal_cmp cmp e.key f.key ≡ Equal) × (place ≤ other))

-- the list at one place wins against that at another, or is it
abbrev pub Beats : KeyOrder → List (List Entry) → ℕ → ℕ → Type 0
Beats cmp lists place other = IsAhead cmp place (slice_index_or lists place []) other
    (slice_index_or lists other [])

-- the winner of two places
pub record IsWinner (cmp : KeyOrder) (lists : List (List Entry)) (one other winner : ℕ)
    : Type 0 where
  pub either : (winner ≡ one) ⊎ (winner ≡ other)
  pub over_one : Beats cmp lists winner one
  pub over_other : Beats cmp lists winner other

-- two nodes are the two below one node
abbrev pub AreBeside : ℕ → ℕ → Type 0
AreBeside node other = ((node ≡ 2 * (node / 2)) × (other ≡ 2 * (node / 2) + 1))
    ⊎ ((node ≡ 2 * (node / 2) + 1) × (other ≡ 2 * (node / 2)))

-- The winners of a tournament of `number` places, a node each. Node 1 is the root, and the nodes
-- below node n are 2n and 2n + 1. The last nodes are the places themselves; node 0 means nothing.
pub record IsBracket (number : ℕ) (winners : List ℕ) : Type 0 where
  pub size : length winners ≡ number + number
  pub within : (node : ℕ) → node < length winners → slice_index winners node < number
  pub leaves : (place : ℕ) → place < number → slice_index winners (number + place) ≡ place

-- each node has the winner of the two below it, except those that are still to be played
pub record IsPlayed (cmp : KeyOrder) (lists : List (List Entry)) (winners : List ℕ)
    (IsLeft : ℕ → Type 0) : Type 0 where
  pub played : (node : ℕ) → 0 < node → node < length lists →
      IsLeft node
      ⊎ IsWinner cmp lists (slice_index winners (2 * node)) (slice_index winners (2 * node + 1))
      (slice_index winners node)

-- what the match at a node changes
pub record IsMatch (cmp : KeyOrder) (lists : List (List Entry)) (old : List ℕ) (node : ℕ)
    (new : List ℕ) : Type 0 where
  pub winner : ℕ
  pub wins : IsWinner cmp lists (slice_index old (2 * node)) (slice_index old (2 * node + 1)) winner
  pub noted : new ≡ set old node winner

-- a node is above another, at most n steps up
abbrev pub IsAboveBy : ℕ → ℕ → ℕ → Type 0
IsAboveBy zero above node = ⊥
IsAboveBy (suc steps) above node = (above ≡ node / 2) ⊎ IsAboveBy steps above (node / 2)

-- a node is above another
abbrev pub IsAbove : ℕ → ℕ → Type 0
IsAbove above node = (steps : ℕ) × IsAboveBy steps above node

-- no list falls, and all matches are played
pub record IsTournament (cmp : KeyOrder) (lists : List (List Entry)) (winners : List ℕ)
    : Type 0 where
  pub ordered : AllByRecursion (NeverFalls cmp) lists
  pub bracket : IsBracket (length lists) winners
  pub matches : IsPlayed cmp lists winners (λ node. ⊥)

-- the head of the first key of a list; the greatest number of sixteen bytes if it has no entry
abbrev pub first_head : (List ℕ → ℕ) → List Entry → ℕ
first_head head_of [] = 2 ^ 128 - 1
first_head head_of (e ∷ es) = head_of (user_of e.key)

-- the heads of the first keys of lists
pub record AreHeads (head_of : List ℕ → ℕ) (lists : List (List Entry)) (heads : List ℕ)
    : Type 0 where
  pub size : length heads ≡ length lists
  pub each : (place : ℕ) → place < length lists →
      slice_index heads place ≡ first_head head_of (slice_index_or lists place [])

-- a tournament, with the heads of its lists' first keys
pub record IsHeaded (cmp : KeyOrder) (head_of : List ℕ → ℕ) (lists : List (List Entry))
    (winners heads : List ℕ) : Type 0 where
  pub tournament : IsTournament cmp lists winners
  pub headed : AreHeads head_of lists heads
