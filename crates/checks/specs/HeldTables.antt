-- Tables of a folder that are held from one range of user keys to the next.
use Rattle.std.specs.Prelude.{◌≡◌, ℕ, Bool, true, false, List, map, Option, Some, None}
use Rattle.std.specs.Prelude.{Result, Ok, Err}
use Rattle.std.specs.List.{All, AllZip}
use Rattle.ikey.specs.Answers.{IsThen}
use Rattle.ikey.specs.fault.Fault.{Fault}
use Rattle.ikey.specs.Comparator.{KeyOrder}
use Rattle.table.specs.TableContents.{Contents, contents_reading}
use Rattle.folder.specs.Calls.{Files, ToldFiles}
use Rattle.folder.specs.LoadedTables.{IsLoaded, IsTableAnswer}
use Rattle.folder.specs.ReadsAs.{IsFileIn}
use Rattle.reads.specs.Tables.{NumberedContents}
use Rattle.checks.specs.TableReadings.{tables_reading}

-- the table of a number, as a folder tells it, and what it holds
pub record IsTableBy (cmp : KeyOrder) (tells : ToldFiles) (number : ℕ) (x : Contents) : Type 0 where
  pub there : IsTableAnswer tells number (Ok x.bytes)
  pub read : contents_reading cmp x.bytes ≡ Ok x

-- the same of a folder that tells just these files
abbrev pub IsTableIn : KeyOrder → Files → ℕ → Contents → Type 0
IsTableIn cmp files number x = IsTableBy cmp (IsFileIn files) number x

-- the numbers of tables
abbrev pub held_numbers : List NumberedContents → List ℕ
held_numbers tables = map (λ (t : NumberedContents). t.number) tables

-- Each of the tables is the one of its number, as a folder tells it. That may be a folder that
-- allows several answers, or every answer: then each table is one of those that it allows.
abbrev pub AreHeldBy : KeyOrder → ToldFiles → List NumberedContents → Type 0
AreHeldBy cmp tells tables =
    All (λ (t : NumberedContents). IsTableBy cmp tells t.number t.contents) tables

-- each of the tables is the one of its number among the files
abbrev pub AreHeldIn : KeyOrder → Files → List NumberedContents → Type 0
AreHeldIn cmp files tables = AreHeldBy cmp (IsFileIn files) tables

-- these are the tables of the numbers among the files, in order
abbrev pub AreFound : KeyOrder → Files → List ℕ → List NumberedContents → Type 0
AreFound cmp files numbers tables =
    AllZip (λ (n : ℕ) (t : NumberedContents). (t.number ≡ n) × IsTableIn cmp files n t.contents)
    numbers tables

-- the bytes of each table read as what it holds
abbrev pub AreReadAs : KeyOrder → List NumberedContents → Type 0
AreReadAs cmp tables =
    All (λ (t : NumberedContents). contents_reading cmp t.contents.bytes ≡ Ok t.contents) tables

-- the tables of the numbers, or the first refusal: all of them are read, in order, and then each is
-- checked
abbrev pub IsCheckedAnswer : KeyOrder → Files → List ℕ → Result (List NumberedContents) Fault →
    Type 0
IsCheckedAnswer cmp files numbers =
    IsThen (IsLoaded (IsFileIn files) numbers) (λ loaded answer. tables_reading cmp loaded ≡ answer)

-- the tables of the numbers; None if one of them is missing or invalid
abbrev pub IsFoundAnswer : KeyOrder → Files → List ℕ →
    Result (Option (List NumberedContents)) Fault → Type 0
IsFoundAnswer cmp files numbers (Ok (Some tables)) = AreFound cmp files numbers tables
IsFoundAnswer cmp files numbers (Ok None) =
    (tables : List NumberedContents) → AreFound cmp files numbers tables → ⊥
IsFoundAnswer cmp files numbers (Err e) = ⊥

-- these tables, if they are held
abbrev pub held_if : Bool → List NumberedContents → Option (List NumberedContents)
held_if true tables = Some tables
held_if false tables = None
