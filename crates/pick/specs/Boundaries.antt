-- Boundary files: those that go on within the user key with which the chosen files end.
use Rattle.std.specs.Prelude.{◌≡◌, ℕ, nat_eq, Bool, false, not, ◌&&◌, if◌then◌else◌, List, [], ◌∷◌}
use Rattle.std.specs.Prelude.{◌++◌, filter, find, fold, Option, Some, None}
use Rattle.std.specs.List.{list_any}
use Rattle.std.specs.Ordering.{is_lt, is_eq}
use Rattle.edit.specs.Key.{user_of}
use Rattle.edit.specs.Order.{internal_cmp}
use Rattle.edit.specs.Comparator.{KeyOrder}
use Rattle.edit.specs.declared.meta.FileMeta.{FileMeta}

-- the greater of two internal keys
abbrev pub greater_key : KeyOrder → List ℕ → List ℕ → List ℕ
greater_key cmp a b = if is_lt (internal_cmp cmp a b) then b else a

-- the greatest of the keys so far and one more file's largest key
abbrev pub with_largest : KeyOrder → Option (List ℕ) → FileMeta → Option (List ℕ)
with_largest cmp None f = Some f.largest
with_largest cmp (Some key) f = Some (greater_key cmp key f.largest)

-- the greatest of the files' largest keys; None if there is no file
abbrev pub largest_key : KeyOrder → List FileMeta → Option (List ℕ)
largest_key cmp files = fold (with_largest cmp) None files

-- whether a file goes on within the user key of a largest key: its smallest key is greater and has
-- that user key
abbrev pub goes_on : KeyOrder → Option (List ℕ) → FileMeta → Bool
goes_on cmp None f = false
goes_on cmp (Some key) f = is_lt (internal_cmp cmp key f.smallest)
    && is_eq (cmp (user_of key) (user_of f.smallest))

-- whether a file is one of the files, which are known by their numbers
abbrev pub is_among : List FileMeta → FileMeta → Bool
is_among files f = list_any (λ (g : FileMeta). nat_eq g.number f.number) files

-- The next boundary file: the first in version order that isn't chosen yet and goes on within the
-- user key of the chosen files' largest key.
abbrev pub next_boundary : KeyOrder → List FileMeta → List FileMeta → Option FileMeta
next_boundary cmp files chosen =
    find (λ (f : FileMeta). not (is_among chosen f) && goes_on cmp (largest_key cmp chosen) f) files

-- The chain of boundary files: each is the next one after those before it, and after the last there
-- is none.
abbrev pub IsChain : KeyOrder → List FileMeta → List FileMeta → List FileMeta → Type 0
IsChain cmp files chosen [] = next_boundary cmp files chosen ≡ None
IsChain cmp files chosen (f ∷ added) = (next_boundary cmp files chosen ≡ Some f)
    × IsChain cmp files (chosen ++ f ∷ []) added

-- These are the chosen files of a level and their boundary files, in version order.
pub record AreWithBoundaries (cmp : KeyOrder) (files chosen all : List FileMeta) : Type 0 where
  pub added : List FileMeta
  pub chain : IsChain cmp files chosen added
  pub these : all ≡ filter (is_among (chosen ++ added)) files
