-- The calls of an installation, and what they make of a version.
use Rattle.std.specs.Prelude.{◌≡◌, ◌⊎◌, ◌<◌, ◌≤◌, ℕ, nat_eq, List, [], ◌∷◌, ◌++◌, map, unwrap_or}
use Rattle.std.specs.Prelude.{codes, Some, None, is_some, true, Result, OnOk}
use Rattle.std.specs.Global.{Vec}
use Rattle.std.specs.Map.{lookup}
use Rattle.edit.specs.Answers.{fault}
use Rattle.edit.specs.fault.Fault.{Fault}
use Rattle.edit.specs.fault.FaultName.TheVariants.{Changed}
use Rattle.edit.specs.Comparator.{KeyOrder}
use Rattle.logrec.specs.Log.{log}
use Rattle.edit.specs.Edit.{Edit, IsEdit, edit_bytes}
use Rattle.edit.specs.Version.{State, applied}
use Rattle.edit.specs.VersionOrder.{snapshot_of}
use Rattle.edit.specs.declared.meta.NewFile.{NewFile}
use Rattle.folder.specs.Calls.{Call, Created, Files, FolderSynced, Renamed, Step, Synced, Tells}
use Rattle.folder.specs.Calls.{Written}
use Rattle.folder.specs.Crash.{Leads, LeavesOnly, World}
use Rattle.folder.specs.Levels.{file_numbers}
use Rattle.folder.specs.Names.{current_text, manifest_name, temporary_name}
use Rattle.folder.specs.OpenAnswer.{IsStopped}
use Rattle.folder.specs.ReadsAs.{IsOneOf, ReadsAs, StandsAs, StandsBy}
use Rattle.folder.specs.TableFiles.{named_tables}
use Rattle.folder.specs.declared.order.Order.{Order}
use Rattle.install.specs.FolderChange.{FolderChange}

-- tables of the code as numbers and bytes
abbrev pub tables_in : List (ℕ × Vec ℕ) → List (ℕ × List ℕ)
tables_in tables = map (λ (t : ℕ × Vec ℕ). (t.0, t.1.items)) tables

-- a file is made and synced
abbrev pub write_calls : List ℕ → List ℕ → List Call
write_calls name bytes = Created name bytes ∷ Synced name ∷ []

-- One group of tables after the other is made and synced, the tables of a group in any order.
abbrev pub table_calls : List (List (ℕ × List ℕ)) → List Call
table_calls groups = map (λ (g : List (ℕ × List ℕ)). Written (named_tables g)) groups

-- the manifest of the edited version: a log of the snapshot of the version before, and the edit
abbrev pub manifest_bytes : List ℕ → KeyOrder → State → List ℕ → List ℕ
manifest_bytes name cmp v edit = log (edit_bytes (snapshot_of name cmp v) ∷ edit ∷ [])

-- CURRENT's text is made under its temporary name and synced, and the folder is synced
abbrev pub temporary_calls : ℕ → List Call
temporary_calls number = write_calls (temporary_name number) (current_text number)
    ++ FolderSynced ∷ []

-- the temporary name is renamed to CURRENT, and the folder is synced
abbrev pub current_calls : ℕ → List Call
current_calls number = Renamed (temporary_name number) (codes "CURRENT") ∷ FolderSynced ∷ []

-- the calls between the tables and the rename: manifest, CURRENT's text
abbrev pub manifest_calls : ℕ → List ℕ → List Call
manifest_calls number manifest =
    write_calls (manifest_name number) manifest ++ temporary_calls number

-- the calls before the rename: groups of tables, manifest, CURRENT's text
abbrev pub calls_before_rename : ℕ → List (List (ℕ × List ℕ)) → List ℕ → List Call
calls_before_rename number groups manifest = table_calls groups ++ manifest_calls number manifest

-- The calls of an installation that write. CURRENT is read again between the two parts.
abbrev pub install_calls : ℕ → List (List (ℕ × List ℕ)) → List ℕ → List Call
install_calls number groups manifest =
    calls_before_rename number groups manifest ++ current_calls number

-- the device failed, and Device is the answer; or CURRENT was not as it was, and Changed is
abbrev pub IsStoppedOrChanged : ℕ → ℕ → Fault → Type 0
IsStoppedOrChanged before now e = IsStopped before now e ⊎ (e ≡ fault Changed)

-- the numbers of tables
abbrev pub numbers_of : List (ℕ × List ℕ) → List ℕ
numbers_of tables = map (λ (t : ℕ × List ℕ). t.0) tables

-- the bytes of the first table of a number, or no bytes if there is none; each number that is asked
-- for has one
abbrev pub table_bytes_of : List (ℕ × List ℕ) → ℕ → List ℕ
table_bytes_of tables number = unwrap_or (lookup (nat_eq number) tables) []

-- the tables of the next version: the outputs, and those of the tables before that stay
abbrev pub next_version_tables : KeyOrder → State → List (ℕ × List ℕ) → List (ℕ × List ℕ) →
    List (ℕ × List ℕ)
next_version_tables cmp next outputs tables =
    map (λ (n : ℕ). (n, table_bytes_of (outputs ++ tables) n)) (file_numbers cmp next)

-- a version with the bytes of its tables, each by its number
pub record LoadedVersion : Type 0 where
  pub version : State
  pub tables : List (ℕ × List ℕ)

abbrev pub version_with : State → List (ℕ × List ℕ) → LoadedVersion
version_with v tables = record { version = v; tables = tables }

-- the next version with its tables, of which these are outputs
abbrev pub next_with : KeyOrder → State → List (ℕ × List ℕ) → List (ℕ × List ℕ) → LoadedVersion
next_with cmp next outputs tables = version_with next (next_version_tables cmp next outputs tables)

-- The outputs and the bytes of an edit make the next version of this one, by a manifest of this
-- number.
pub record IsEditedBy (cmp : KeyOrder) (v : State) (number : ℕ) (outputs : List (ℕ × List ℕ))
    (bytes : List ℕ) (next : State) : Type 0 where
  -- the edit, which names no comparator and sets all counters of a database
  pub edit : Edit
  pub read : IsEdit bytes edit
  pub no_name : edit.comparator ≡ None
  pub log_number : is_some edit.log_number ≡ true
  pub previous_log : is_some edit.previous_log ≡ true
  pub last_sequence : is_some edit.last_sequence ≡ true
  pub edited : applied v edit ≡ Some next
  -- its new files are the outputs in their order
  pub added : map (λ (f : NewFile). f.meta.number) edit.added ≡ numbers_of outputs
  -- the numbers of the version's files are below its next file, those of the outputs and of the
  -- manifest are not
  pub least : ℕ
  pub first_free : v.next_file ≡ Some least
  pub below : (n : ℕ) → IsOneOf (file_numbers cmp v) n → n < least
  pub above : (n : ℕ) → IsOneOf (numbers_of outputs) n → least ≤ n
  pub manifest_above : least ≤ number
  pub next_free : ℕ
  pub next_file : edit.next_file ≡ Some next_free
  pub manifest_below : number < next_free

-- files that read as the version before or as the next one
abbrev pub IsBeforeOrAfter : KeyOrder → Order → State → List (ℕ × List ℕ) → State →
    List (ℕ × List ℕ) → Files → Type 0
IsBeforeOrAfter cmp order v tables next tables' files = ReadsAs cmp order v tables files
    ⊎ ReadsAs cmp order next tables' files

-- After these calls from the start, the folder stands for the version and its tables.
abbrev pub AlwaysStandsAs : KeyOrder → Order → State → List (ℕ × List ℕ) → World → List Step →
    Type 0
AlwaysStandsAs cmp order v tables start calls = (w : World) → Leads start calls w →
    StandsAs cmp order v tables w

-- After these calls from the start, the folder stands for the version and its tables, and CURRENT
-- names the manifest of this number.
abbrev pub AlwaysStandsBy : KeyOrder → Order → State → ℕ → List (ℕ × List ℕ) → World →
    List Step → Type 0
AlwaysStandsBy cmp order v manifest tables start calls = (w : World) → Leads start calls w →
    StandsBy cmp order v manifest tables w

-- What an installation of the next version guarantees, by what it changed of the folder.
pub record SurvivesCrash {T E : Type 0} (cmp : KeyOrder) (order : Order) (v next : LoadedVersion)
    (change : FolderChange) (result : Result T E) : Type 0 where
  -- if the folder stands for the version, a crash at any moment leaves it or the next version
  pub any_moment : (start : World) →
      AlwaysStandsAs cmp order v.version v.tables start change.before →
      LeavesOnly start change.before change.after
      (IsBeforeOrAfter cmp order v.version v.tables next.version next.tables)
  -- then at Ok the folder stands for the next version
  pub installed : (start : World) →
      AlwaysStandsAs cmp order v.version v.tables start change.before →
      OnOk result (AlwaysStandsAs cmp order next.version next.tables start change.after)
  -- without a crash the folder reads as one of the two, and at Ok as the next version
  pub read : (files : Files) → Tells change.old files →
      ReadsAs cmp order v.version v.tables files
      → (now : Files) × Tells change.new now
      × IsBeforeOrAfter cmp order v.version v.tables next.version next.tables now
      × OnOk result (ReadsAs cmp order next.version next.tables now)
