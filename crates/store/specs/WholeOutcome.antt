-- What a crash leaves of an outcome that is being written.
use Rattle.std.specs.Prelude.{◌≡◌, ◌≢◌, ◌⊎◌, ℕ, List, [], ◌∷◌, codes, Some, None}
use Rattle.folder.specs.Calls.{Files}
use Rattle.folder.specs.Crash.{World}
use Rattle.folder.specs.TableFiles.{named_tables}
use Rattle.compact.specs.OneThread.{Answer}

-- the files are there with their bytes
abbrev pub AreThere : List (List ℕ × List ℕ) → Files → Type 0
AreThere [] files = Unit {0}
AreThere (file ∷ rest) files = (files file.0 ≡ Some file.1) × AreThere rest files

-- none of the files has this name
abbrev pub IsNameOfNone : List ℕ → List (List ℕ × List ℕ) → Type 0
IsNameOfNone name [] = Unit {0}
IsNameOfNone name (file ∷ rest) = (file.0 ≢ name) × IsNameOfNone name rest

-- no two of the files have one name
abbrev pub AreNamedApart : List (List ℕ × List ℕ) → Type 0
AreNamedApart [] = Unit {0}
AreNamedApart (file ∷ rest) = IsNameOfNone file.0 rest × AreNamedApart rest

-- there is no EDIT, now and after a crash
abbrev pub HasNoEdit : World → Type 0
HasNoEdit w = (w.shown.files (codes "EDIT") ≡ None) × (w.left (codes "EDIT") ≡ None)

-- EDIT has the bytes of the edit, and each table is there with its bytes.
abbrev pub IsWhole : Answer → Files → Type 0
IsWhole answer files = (files (codes "EDIT") ≡ Some answer.edit)
    × AreThere (named_tables answer.tables) files

-- there is no EDIT, or all of it with all tables
abbrev pub IsAbsentOrWhole : Answer → Files → Type 0
IsAbsentOrWhole answer files = (files (codes "EDIT") ≡ None) ⊎ IsWhole answer files
