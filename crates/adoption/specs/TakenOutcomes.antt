-- Outcomes that are taken in, one after the other, to be installed by one manifest.
use Rattle.std.specs.Prelude.{◌≡◌, ℕ, nat_lt, Bool, true, List, [], ◌∷◌, ◌++◌, Result, Ok}
use Rattle.std.specs.List.{AllByRecursion, list_all}
use Rattle.edit.specs.Answers.{IsThen, ◌>>=◌}
use Rattle.edit.specs.fault.Fault.{Fault}
use Rattle.edit.specs.fault.FaultName.TheVariants.{Apply}
use Rattle.edit.specs.Comparator.{KeyOrder}
use Rattle.edit.specs.Version.{State}
use Rattle.folder.specs.Calls.{Files, ToldFiles}
use Rattle.folder.specs.ReadsAs.{IsFileIn}
use Rattle.install.specs.Install.{next_version_tables}
use Rattle.pick.specs.declared.picked_inputs.InputFile.{InputFile}
use Rattle.keep.specs.Gets.{get_of}
use Rattle.keep.specs.Readable.{is_read, readable_of}
use Rattle.keep.specs.Tables.{NumberedContents}
use Rattle.keep.specs.TestResult.{test_result}
use Rattle.checks.specs.LawfulTables.{IsLawfulTables}
use Rattle.store.specs.FolderRequest.{manifest_of}
use Rattle.store.specs.Outcome.{OutcomeView}
use Rattle.adoption.specs.Adoption.{Adoption, IsGiven, IsGivenTaken}
use Rattle.adoption.specs.AdoptedOutcome.{IsAdopted}
use Rattle.adoption.specs.declared.comparison.Comparison.{Comparison}
use Rattle.adoption.specs.declared.comparison.Comparison.TheVariants.{With, LeftOut}

-- an outcome: its adopted edit, and the tables of its outputs
abbrev pub Given : Type 0
Given = Adoption × List (ℕ × List ℕ)

-- ---- what is answered for one

-- All inputs of an outcome are files of the version that was opened: their numbers are below its
-- next file, and those of outputs are not.
abbrev pub has_opened_inputs : State → Given → Bool
has_opened_inputs first given =
    list_all (λ (i : InputFile). nat_lt i.meta.number (manifest_of first)) given.0.picked.files

-- The outcome that a folder holds, for the version that those before it leave, or Apply if an input
-- of it isn't a file of the first version, which was opened.
abbrev pub IsGivenNext : KeyOrder → ToldFiles → State → State → Result Given Fault → Type 0
IsGivenNext cmp tells first v = IsThen (IsGiven cmp tells v)
    (λ given answer. answer
    ≡ (test_result (has_opened_inputs first given) Apply >>= λ _. Ok given))

-- the answer for the outcome that a folder holds, as if those before it were installed
abbrev pub IsTakenFrom : KeyOrder → Files → Files → State → State → Comparison →
    Result OutcomeView Fault → Type 0
IsTakenFrom cmp files source first v comparison =
    IsThen (IsGivenNext cmp (IsFileIn source) first v) (λ given.
    IsGivenTaken cmp files given comparison)

-- ---- outcomes, of which the last is the first of the list

-- their tables in order, a group for each
abbrev pub groups_of : List Given → List (List (ℕ × List ℕ))
groups_of [] = []
groups_of (given ∷ before) = groups_of before ++ given.1 ∷ []

-- all their tables
abbrev pub given_tables : List Given → List (ℕ × List ℕ)
given_tables [] = []
given_tables (given ∷ before) = given_tables before ++ given.1

-- the bytes of their edits, one after the other
abbrev pub edits_in : List Given → List ℕ
edits_in [] = []
edits_in (given ∷ before) = edits_in before ++ given.0.edit

-- Each outcome was adopted for the version that those before it leave, and has files of the first
-- version as inputs. They leave the last version.
abbrev pub AreTakenInTurn : KeyOrder → State → List Given → State → Type 0
AreTakenInTurn cmp first [] v = v ≡ first
AreTakenInTurn cmp first (given ∷ before) v = (w : State) × AreTakenInTurn cmp first before w
    × IsAdopted cmp w given × (has_opened_inputs first given ≡ true) × (v ≡ given.0.next)

-- If the first version was lawful and outputs were compared, each get at a sequence that is
-- readable for each outcome answers as before.
abbrev pub KeepReadsInTurn : KeyOrder → State → List (ℕ × List ℕ) → Comparison → List Given →
    State → List NumberedContents → Type 0
KeepReadsInTurn cmp first loaded (With snapshots) outcomes v tables_next =
    (tables : List NumberedContents) → IsLawfulTables cmp first loaded (Ok tables) →
    (user : List ℕ) (at : ℕ) →
    AllByRecursion (λ (o : Given). is_read (readable_of snapshots o.0.last) at ≡ true) outcomes →
    get_of v tables_next user at ≡ get_of first tables user at
KeepReadsInTurn cmp first loaded LeftOut outcomes v tables_next = Unit {0}

-- The version that outcomes leave is lawful with all their tables and those of the first version,
-- and gets answer as they should.
pub record IsLawfulAfter (cmp : KeyOrder) (first : State) (loaded : List (ℕ × List ℕ))
    (comparison : Comparison) (outcomes : List Given) (v : State) : Type 0 where
  pub tables_next : List NumberedContents
  pub lawful : IsLawfulTables cmp v (next_version_tables cmp v (given_tables outcomes) loaded)
      (Ok tables_next)
  pub gets : KeepReadsInTurn cmp first loaded comparison outcomes v tables_next

-- If outputs are compared: the first version is lawful, and so is the one that outcomes leave, as
-- far as they were taken in.
abbrev pub IsLawfulSoFar : KeyOrder → State → List (ℕ × List ℕ) → Comparison → List Given →
    State → Type 0
IsLawfulSoFar cmp first loaded (With snapshots) [] v =
    (tables : List NumberedContents) × IsLawfulTables cmp first loaded (Ok tables)
IsLawfulSoFar cmp first loaded (With snapshots) (given ∷ before) v =
    IsLawfulAfter cmp first loaded (With snapshots) (given ∷ before) v
IsLawfulSoFar cmp first loaded LeftOut outcomes v = Unit {0}
