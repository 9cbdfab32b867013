-- The number in a name, and numbers as a set.
use Rattle.std.specs.Prelude.{◌≡◌, ◌↔◌, ◌<◌, ◌^◌, ℕ, true, List, Option, Some, None}
use Rattle.std.specs.BTreeSet.{BTreeSet, contains}
use Rattle.std.specs.Ordering.{nat_cmp}
use Rattle.folder.specs.ReadsAs.{IsOneOf}
use Rattle.install.specs.ObsoleteFile.{name_of}
use Rattle.install.specs.declared.file_kind.FileKind.{FileKind}

-- the number of the file of this kind that has the name, or None if it is no name of this kind
abbrev pub IsNumberIn : FileKind → List ℕ → Option ℕ → Type 0
IsNumberIn kind name (Some number) = (number < 2 ^ 64) × (name ≡ name_of kind number)
IsNumberIn kind name None = (number : ℕ) → number < 2 ^ 64 → name ≡ name_of kind number → ⊥

-- the set has just these numbers
abbrev pub IsNumberSet : BTreeSet ℕ → List ℕ → Type 0
IsNumberSet set numbers = (n : ℕ) → (contains nat_cmp set n ≡ true) ↔ IsOneOf numbers n
