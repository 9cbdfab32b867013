-- A version that a folder reads as and stands for, with its order and the number of its manifest.
use Rattle.std.specs.Prelude.{ℕ, List}
use Rattle.edit.specs.Version.{State}
use Rattle.folder.specs.Calls.{Files, Step}
use Rattle.folder.specs.Crash.{World}
use Rattle.folder.specs.Levels.{file_numbers}
use Rattle.folder.specs.Orders.{order_cmp}
use Rattle.folder.specs.ReadsAs.{ReadsBy}
use Rattle.folder.specs.declared.order.Order.{Order}
use Rattle.install.specs.Install.{AlwaysStandsBy}

-- a version of a folder: its order, and the number of the manifest that CURRENT names
pub record NamedVersion : Type 0 where
  pub order : Order
  pub version : State
  pub manifest : ℕ

-- the numbers of its files, by level and in version order
abbrev pub numbers_in : NamedVersion → List ℕ
numbers_in v = file_numbers (order_cmp v.order) v.version

-- the files read as a version with these tables, and CURRENT names its manifest
abbrev pub Reads : NamedVersion → List (ℕ × List ℕ) → Files → Type 0
Reads v tables files = ReadsBy (order_cmp v.order) v.order v.version v.manifest tables files

-- After these calls from the start, the folder stands for a version with these tables, by its
-- manifest.
abbrev pub Stands : NamedVersion → List (ℕ × List ℕ) → World → List Step → Type 0
Stands v tables start calls =
    AlwaysStandsBy (order_cmp v.order) v.order v.version v.manifest tables start calls
