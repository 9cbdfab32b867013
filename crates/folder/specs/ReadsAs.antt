-- What the files of a folder read as: a version and its tables.
use Rattle.std.specs.Prelude.{◌≡◌, ◌⊎◌, ◌<◌, ◌^◌, ℕ, List, [], ◌∷◌, codes, Option, Some, None, Ok}
use Rattle.ikey.specs.Comparator.{KeyOrder}
use Rattle.edit.specs.Version.{State}
use Rattle.folder.specs.Calls.{Files}
use Rattle.folder.specs.Crash.{IsDurable, World}
use Rattle.folder.specs.Levels.{file_numbers}
use Rattle.folder.specs.LoadedTables.{IsLoaded}
use Rattle.folder.specs.Names.{current_text, manifest_name, old_table_name, table_name}
use Rattle.folder.specs.OpenAnswer.{IsOpened}
use Rattle.folder.specs.declared.order.Order.{Order}

-- the bytes under a name of these files
abbrev pub IsFileIn : Files → List ℕ → Option (List ℕ) → Type 0
IsFileIn files name held = files name ≡ held

-- The files read as a version of this order, and its tables. CURRENT names a manifest that gives
-- the version, and each of the version's files has its table. cmp only orders the tables as they
-- are loaded: nothing ties it to the version's order.
pub record ReadsAs (cmp : KeyOrder) (order : Order) (v : State) (tables : List (ℕ × List ℕ))
    (files : Files) : Type 0 where
  pub opened : IsOpened (IsFileIn files) (Ok (order, v))
  pub loaded : IsLoaded (IsFileIn files) (file_numbers cmp v) (Ok tables)

-- The files read as a version of this order and its tables, and CURRENT names the manifest of this
-- number.
pub record ReadsBy (cmp : KeyOrder) (order : Order) (v : State) (manifest : ℕ)
    (tables : List (ℕ × List ℕ)) (files : Files) : Type 0 where
  pub reads : ReadsAs cmp order v tables files
  pub named : files (codes "CURRENT") ≡ Some (current_text manifest)

-- n is one of the numbers
abbrev pub IsOneOf : List ℕ → ℕ → Type 0
IsOneOf [] n = ⊥
IsOneOf (m ∷ numbers) n = (n ≡ m) ⊎ IsOneOf numbers n

-- The names on which that reading rests. They are CURRENT, the manifest that it names, and of each
-- table its name, and its older name if there is no file under the first.
pub data RestsOn (cmp : KeyOrder) (v : State) (files : Files) : List ℕ → Type 0 where
  Current : RestsOn cmp v files (codes "CURRENT")
  Manifest : (number : ℕ) → number < 2 ^ 64 → files (codes "CURRENT") ≡ Some (current_text number) →
      RestsOn cmp v files (manifest_name number)
  Table : (number : ℕ) → IsOneOf (file_numbers cmp v) number →
      RestsOn cmp v files (table_name number)
  OldTable : (number : ℕ) → IsOneOf (file_numbers cmp v) number → files (table_name number) ≡ None →
      RestsOn cmp v files (old_table_name number)

-- a crash now leaves under the name what is read there, and a sync of the folder keeps it
pub record IsSettled (w : World) (name : List ℕ) : Type 0 where
  pub kept : IsDurable w.shown name
  pub left : w.left name ≡ w.shown.files name

-- The folder reads as the version and its tables, and each name on which that rests is settled.
pub record StandsAs (cmp : KeyOrder) (order : Order) (v : State) (tables : List (ℕ × List ℕ))
    (w : World) : Type 0 where
  pub reads : ReadsAs cmp order v tables w.shown.files
  pub settled : (name : List ℕ) → RestsOn cmp v w.shown.files name → IsSettled w name

-- The folder stands for the version and its tables, and CURRENT names the manifest of this number.
pub record StandsBy (cmp : KeyOrder) (order : Order) (v : State) (manifest : ℕ)
    (tables : List (ℕ × List ℕ)) (w : World) : Type 0 where
  pub stands : StandsAs cmp order v tables w
  pub named : w.shown.files (codes "CURRENT") ≡ Some (current_text manifest)
