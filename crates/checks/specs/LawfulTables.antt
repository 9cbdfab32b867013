-- The tables with which a version is lawful.
use Rattle.std.specs.Prelude.{◌≡◌, ℕ, List, Result, Ok, Err}
use Rattle.ikey.specs.Answers.{IsThen}
use Rattle.ikey.specs.fault.Fault.{Fault}
use Rattle.ikey.specs.Comparator.{KeyOrder}
use Rattle.folder.specs.Version.{State}
use Rattle.reads.specs.Lawful.{IsLawful, IsUnlawful}
use Rattle.reads.specs.Tables.{NumberedContents}
use Rattle.checks.specs.TableReadings.{tables_reading}

-- what the test of a version answers for tables: these, if the version is lawful with them
abbrev pub IsLawfulAnswer : KeyOrder → State → List NumberedContents →
    Result (List NumberedContents) Fault → Type 0
IsLawfulAnswer cmp v tables (Ok same) = (same ≡ tables) × IsLawful cmp v tables
IsLawfulAnswer cmp v tables (Err e) = IsUnlawful cmp v tables e

-- The tables of a version whose bytes were read: each is checked, in order, and then the version is
-- lawful with them.
abbrev pub IsLawfulTables : KeyOrder → State → List (ℕ × List ℕ) →
    Result (List NumberedContents) Fault → Type 0
IsLawfulTables cmp v loaded = IsThen (λ checked. tables_reading cmp loaded ≡ checked)
    (IsLawfulAnswer cmp v)
