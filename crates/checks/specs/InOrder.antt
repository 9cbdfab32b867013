-- The tables of a version, read and checked in order.
use Rattle.std.specs.Prelude.{◌≡◌, ℕ, nat_eq, Bool, not, List, ◌++◌, Option, Some, None, Result, Ok}
use Rattle.std.specs.Prelude.{Err}
use Rattle.std.specs.List.{All, AllZip, list_any}
use Rattle.ikey.specs.Answers.{IsThen}
use Rattle.ikey.specs.fault.Fault.{Fault}
use Rattle.ikey.specs.Comparator.{KeyOrder}
use Rattle.folder.specs.Calls.{Files}
use Rattle.folder.specs.LoadedTables.{IsLoaded, IsTableOf}
use Rattle.folder.specs.ReadsAs.{IsFileIn}
use Rattle.reads.specs.Tables.{NumberedContents}
use Rattle.table.specs.TableContents.{Contents}
use Rattle.checks.specs.HeldTables.{IsTableIn}
use Rattle.checks.specs.TableReadings.{tables_reading}

-- all tables are read, and then each is checked
abbrev pub AreChecked : KeyOrder → Files → List ℕ → Result (Unit {0}) Fault → Type 0
AreChecked cmp files numbers =
    IsThen (IsLoaded (IsFileIn files) numbers) (λ loaded.
    IsThen (λ checked. tables_reading cmp loaded ≡ checked) (λ tables answer. answer ≡ Ok tt))

-- the refusal of the first invalid table, if one is
abbrev pub IsFirstRefusal : KeyOrder → List (ℕ × List ℕ) → Option Fault → Type 0
IsFirstRefusal cmp loaded None = (tables : List NumberedContents)
    × (tables_reading cmp loaded ≡ Ok tables)
IsFirstRefusal cmp loaded (Some e) = tables_reading cmp loaded ≡ Err e

-- the numbers so far have these tables, of which the first invalid one has this refusal; the rest
-- is still to come
pub record AreCheckedSoFar (cmp : KeyOrder) (files : Files) (numbers rest : List ℕ)
    (first : Option Fault) : Type 0 where
  pub before : List ℕ
  pub loaded : List (ℕ × List ℕ)
  pub parts : before ++ rest ≡ numbers
  pub read : AllZip (IsTableOf (IsFileIn files)) before loaded
  pub refusal : IsFirstRefusal cmp loaded first

-- the table of a number is among the files, and valid
abbrev pub IsSoundIn : KeyOrder → Files → ℕ → Type 0
IsSoundIn cmp files number = (x : Contents) × IsTableIn cmp files number x

-- the same of each of these numbers
abbrev pub AreSoundIn : KeyOrder → Files → List ℕ → Type 0
AreSoundIn cmp files numbers = All (IsSoundIn cmp files) numbers

-- a number is not one of these
abbrev pub is_unknown : List ℕ → ℕ → Bool
is_unknown sound number = not (list_any (λ n. nat_eq n number) sound)
