-- The files of a level that are chosen before boundary files are added.
use Rattle.std.specs.Prelude.{◌≡◌, ℕ, zero, suc, Bool, true, List, [], ◌∷◌, filter, find, Option}
use Rattle.std.specs.Prelude.{Some, None}
use Rattle.std.specs.List.{AllByRecursion, slice_get}
use Rattle.std.specs.Option.{option_or}
use Rattle.std.specs.Ordering.{is_lt}
use Rattle.edit.specs.Order.{internal_cmp}
use Rattle.edit.specs.Comparator.{KeyOrder}
use Rattle.edit.specs.declared.meta.FileMeta.{FileMeta}
use Rattle.pick.specs.Ranges.{overlaps}

-- The first file: in version order the first whose largest key is greater than the level's compact
-- pointer. It is the first of all if there is no pointer or none is greater.
abbrev pub first_file : KeyOrder → Option (List ℕ) → List FileMeta → Option FileMeta
first_file cmp None files = slice_get files 0
first_file cmp (Some pointer) files = option_or
    (find (λ (f : FileMeta). is_lt (internal_cmp cmp pointer f.largest)) files) (slice_get files 0)

-- The files that pass the test are a closed set: each file whose range overlaps that of the set
-- passes.
abbrev pub IsOverlapClosed : KeyOrder → List FileMeta → (FileMeta → Bool) → Type 0
IsOverlapClosed cmp files test = AllByRecursion
    (λ (f : FileMeta). overlaps cmp (filter test files) f ≡ true → test f ≡ true) files

-- The least closed set of files that holds the first file, in version order.
pub record IsLeastClosed (cmp : KeyOrder) (files : List FileMeta) (first : FileMeta)
    (chosen : List FileMeta) : Type 0 where
  pub test : FileMeta → Bool
  pub passed : chosen ≡ filter test files
  pub holds_first : test first ≡ true
  pub closed : IsOverlapClosed cmp files test
  pub least : (other : FileMeta → Bool) → other first ≡ true → IsOverlapClosed cmp files other →
      AllByRecursion (λ (f : FileMeta). test f ≡ true → other f ≡ true) files

-- The files chosen before boundary files are added. At level 0, where ranges overlap, they are the
-- least closed set that holds the first file; at each other level the first file alone.
abbrev pub AreChosen : KeyOrder → ℕ → List FileMeta → FileMeta → List FileMeta → Type 0
AreChosen cmp zero files first chosen = IsLeastClosed cmp files first chosen
AreChosen cmp (suc _) files first chosen = chosen ≡ first ∷ []
