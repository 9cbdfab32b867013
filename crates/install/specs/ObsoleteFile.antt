-- The files of a folder that its version doesn't need.
use Rattle.std.specs.Prelude.{◌≡◌, ◌⊎◌, ◌<◌, ◌^◌, ℕ, List, [], ◌∷◌, Some}
use Rattle.edit.specs.Comparator.{KeyOrder}
use Rattle.edit.specs.Version.{State}
use Rattle.folder.specs.Levels.{file_numbers}
use Rattle.folder.specs.Names.{manifest_name, old_table_name, table_name, temporary_name}
use Rattle.folder.specs.ReadsAs.{IsOneOf}
use Rattle.install.specs.declared.file_kind.FileKind.{FileKind}
use Rattle.install.specs.declared.file_kind.FileKind.TheVariants.{Manifest, OldTable, Table}
use Rattle.install.specs.declared.file_kind.FileKind.TheVariants.{Temporary}

-- the name of the file of a kind and a number
abbrev pub name_of : FileKind → ℕ → List ℕ
name_of Table number = table_name number
name_of OldTable number = old_table_name number
name_of Manifest number = manifest_name number
name_of Temporary number = temporary_name number

-- the number is below next file, and no file of the version has it
pub record IsOldNumber (cmp : KeyOrder) (v : State) (number : ℕ) : Type 0 where
  pub next : ℕ
  pub next_file : v.next_file ≡ Some next
  pub below : number < next
  pub no_file : IsOneOf (file_numbers cmp v) number → ⊥

-- A version needs no file of this kind and number, if CURRENT names the manifest of the number
-- `manifest`. A temporary file is kept only if a file of the version has its number.
abbrev pub IsUnneeded : KeyOrder → State → ℕ → FileKind → ℕ → Type 0
IsUnneeded cmp v manifest Table number = IsOldNumber cmp v number
IsUnneeded cmp v manifest OldTable number = IsOldNumber cmp v number
IsUnneeded cmp v manifest Manifest number = number < manifest
IsUnneeded cmp v manifest Temporary number = IsOneOf (file_numbers cmp v) number → ⊥

-- The name is, just as it is written, that of a file that the version doesn't need.
pub record IsObsoleteFile (cmp : KeyOrder) (v : State) (manifest : ℕ) (name : List ℕ)
    : Type 0 where
  pub kind : FileKind
  pub number : ℕ
  pub small : number < 2 ^ 64
  pub named : name ≡ name_of kind number
  pub unneeded : IsUnneeded cmp v manifest kind number

-- the obsolete ones of these names, in their order
abbrev pub AreObsolete : KeyOrder → State → ℕ → List (List ℕ) → List (List ℕ) → Type 0
AreObsolete cmp v manifest [] obsolete = obsolete ≡ []
AreObsolete cmp v manifest (name ∷ names) obsolete =
    (IsObsoleteFile cmp v manifest name × ((rest : List (List ℕ)) × (obsolete ≡ name ∷ rest)
    × AreObsolete cmp v manifest names rest))
    ⊎ ((IsObsoleteFile cmp v manifest name → ⊥) × AreObsolete cmp v manifest names obsolete)
