-- Files as the entries of a map by their numbers.
use Rattle.std.specs.Prelude.{◌≡◌, ℕ, List}
use Rattle.std.specs.List.{AllByRecursion}
use Rattle.std.specs.List.Sorted.{IsStrictlySortedBy}
use Rattle.std.specs.Map.{keys_of}
use Rattle.std.specs.Ordering.{nat_cmp}
use Rattle.std.specs.BTreeMap.{insert_entry}
use Rattle.edit.specs.declared.meta.NewFile.{NewFile}

-- each file stands under its number, and the numbers rise
pub record IsByNumber (entries : List (ℕ × NewFile)) : Type 0 where
  pub numbers : AllByRecursion (λ e. e.0 ≡ e.1.meta.number) entries
  pub rises : IsStrictlySortedBy nat_cmp (keys_of entries)

-- the entries with a file's under its number, in place of the one that stands there
abbrev pub with_numbered : List (ℕ × NewFile) → NewFile → List (ℕ × NewFile)
with_numbered entries f = insert_entry nat_cmp entries f.meta.number f
