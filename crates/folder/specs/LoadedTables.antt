-- The tables of files, read one after the other.
use Rattle.std.specs.Prelude.{◌≡◌, ◌⊎◌, ℕ, List, ◌∷◌, ◌++◌, Some, None, Result, Ok, Err}
use Rattle.std.specs.List.{AllZip}
use Rattle.ikey.specs.Answers.{fault}
use Rattle.ikey.specs.fault.Fault.{Fault}
use Rattle.ikey.specs.fault.FaultName.TheVariants.{Missing}
use Rattle.folder.specs.Names.{old_table_name, table_name}
use Rattle.folder.specs.Calls.{ToldFiles}

-- The bytes of the table of a number: those under its name, or if that is missing those under its
-- older name. Missing if both are.
abbrev pub IsTableAnswer : ToldFiles → ℕ → Result (List ℕ) Fault → Type 0
IsTableAnswer tells number (Ok bytes) = tells (table_name number) (Some bytes)
    ⊎ (tells (table_name number) None × tells (old_table_name number) (Some bytes))
IsTableAnswer tells number (Err e) = tells (table_name number) None
    × tells (old_table_name number) None × (e ≡ fault Missing)

-- the table of this number
abbrev pub IsTableOf : ToldFiles → ℕ → ℕ × List ℕ → Type 0
IsTableOf tells number table = (table.0 ≡ number) × IsTableAnswer tells number (Ok table.1)

-- the refusal of the first number whose table is missing
pub record IsFirstMissing (tells : ToldFiles) (numbers : List ℕ) (e : Fault) : Type 0 where
  pub before : List ℕ
  pub tables : List (ℕ × List ℕ)
  pub number : ℕ
  pub behind : List ℕ
  pub parts : numbers ≡ before ++ number ∷ behind
  pub read : AllZip (IsTableOf tells) before tables
  pub missing : IsTableAnswer tells number (Err e)

-- the tables of these numbers in order, or Missing at the first that is missing
abbrev pub IsLoaded : ToldFiles → List ℕ → Result (List (ℕ × List ℕ)) Fault → Type 0
IsLoaded tells numbers (Ok tables) = AllZip (IsTableOf tells) numbers tables
IsLoaded tells numbers (Err e) = IsFirstMissing tells numbers e
