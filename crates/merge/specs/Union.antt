-- The union of the inputs of a compaction.
use Rattle.std.specs.Prelude.{◌≡◌, ◌↔◌, ℕ, List, [], ◌∷◌}
use Rattle.std.specs.List.{AllByRecursion}
use Rattle.std.specs.List.Sorted.{IsPermutation}
use Rattle.std.specs.Ordering.{nat_cmp, ordering_then}
use Rattle.std.specs.declared.cmp.Ordering.{Ordering}
use Rattle.std.specs.declared.cmp.Ordering.TheVariants.{Less}
use Rattle.table.specs.EncodedEntry.{Entry}
use Rattle.table.specs.Key.{user_of, sequence_of}
use Rattle.table.specs.Comparator.{KeyOrder}
use Rattle.merge.specs.MergedLists.{entries_of_lists, merged}

-- The order of internal keys without their types: user key rising, then sequence falling. Two keys
-- of one user key and one sequence are equal in it.
abbrev pub key_version_cmp : KeyOrder → List ℕ → List ℕ → Ordering
key_version_cmp cmp a b =
    ordering_then (cmp (user_of a) (user_of b)) (nat_cmp (sequence_of b) (sequence_of a))

-- each entry is before all later ones in that order
abbrev pub VersionsRise : KeyOrder → List Entry → Type 0
VersionsRise cmp [] = Unit {0}
VersionsRise cmp (e ∷ es) = AllByRecursion (λ f. key_version_cmp cmp e.key f.key ≡ Less) es
    × VersionsRise cmp es

-- The union of inputs: the one strictly sorted list of exactly their entries. There is none if a
-- user key has one sequence twice.
pub record IsUnion (cmp : KeyOrder) (inputs : List (List Entry)) (union : List Entry) : Type 0 where
  pub rising : VersionsRise cmp union
  pub same : IsPermutation (entries_of_lists inputs) union

-- a list is the union of the inputs exactly if it is their sorted merge and rises strictly
abbrev pub UnionLaw : KeyOrder → Type 0
UnionLaw cmp = (inputs : List (List Entry)) (union : List Entry) → IsUnion cmp inputs union
    ↔ ((union ≡ merged cmp inputs) × VersionsRise cmp union)
