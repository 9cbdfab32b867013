-- All that is wrong with a version, and how it is told.
use Rattle.std.specs.Prelude.{◌≡◌, ◌⊎◌, ℕ, Bool, false}
use Rattle.std.specs.Prelude.{List, [], ◌++◌, length, map, Result, Ok}
use Rattle.table.specs.Saturated.{saturated}
use Rattle.table.specs.fault.Fault.{Fault}
use Rattle.table.specs.Comparator.{KeyOrder}
use Rattle.folder.specs.Version.{State}
use Rattle.folder.specs.VersionOrder.{added_from}
use Rattle.folder.specs.meta.NewFile.{NewFile}
use Rattle.folder.specs.meta.TheConstants.{LEVELS}
use Rattle.folder.specs.Calls.{Files}
use Rattle.folder.specs.OpenAnswer.{FolderAnswers}
use Rattle.checks.specs.Takers.{AreToldInTurn}
use Rattle.faults.specs.VersionFault.{VersionFault, OfKey}
use Rattle.faults.specs.FileFaults.{faults_of_files}
use Rattle.faults.specs.KeyFaults.{misplaced_keys, searched_entries}

-- the files of a version, by level and in version order
abbrev pub all_files : KeyOrder → State → List NewFile
all_files cmp v = added_from cmp v.files 0 LEVELS

-- All that is wrong with a version, with the tables that files hold. First what is wrong with each
-- file, by level and in version order, and then with each user key, in the order of the keys.
abbrev pub version_faults : KeyOrder → Files → State → List VersionFault
version_faults cmp files v = faults_of_files cmp files v.next_file (all_files cmp v)
    ++ map OfKey (misplaced_keys cmp (searched_entries cmp files (all_files cmp v)))

-- how many these are, 2^64 - 1 if there are more
abbrev pub told_count : List VersionFault → ℕ
told_count faults = saturated (length faults)

-- What is told of these faults. The taker is told a first part of them, whatever the call answers.
-- At Ok these are all, unless the taker said to stop, and Ok is how many. Else the device failed,
-- or memory ran out.
pub record AreFaultsTold {T : Type 0} (tells : T → VersionFault → Bool → T → Type 0)
    (faults : List VersionFault) (old new : T) (before now : ℕ) (result : Result ℕ Fault)
    : Type 0 where
  pub told : List VersionFault
  pub untold : List VersionFault
  pub parts : faults ≡ told ++ untold
  pub goes : Bool
  pub taker : AreToldInTurn tells old told goes new
  pub answer : FolderAnswers (λ count. count) before now result
      (λ answer. (answer ≡ Ok (told_count told)) × ((untold ≡ []) ⊎ (goes ≡ false)))
