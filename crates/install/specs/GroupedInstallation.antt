-- What an installation guarantees that writes its tables in groups.
use Rattle.std.specs.List.{flat_map}
use Rattle.std.specs.Prelude.{◌≡◌, ℕ, List, Result, IfErr}
use Rattle.edit.specs.Answers.{fault}
use Rattle.edit.specs.fault.Fault.{Fault}
use Rattle.edit.specs.fault.FaultName.TheVariants.{Changed}
use Rattle.edit.specs.Comparator.{KeyOrder}
use Rattle.edit.specs.Version.{State}
use Rattle.folder.specs.Manifest.{order_name}
use Rattle.folder.specs.declared.folder.Folder.{Ghosts}
use Rattle.folder.specs.declared.order.Order.{Order}
use Rattle.install.specs.FolderChange.{change_of}
use Rattle.install.specs.Install.{IsEditedBy, SurvivesCrash, calls_before_rename, current_calls}
use Rattle.install.specs.Install.{manifest_bytes, next_with, version_with}
use Rattle.install.specs.InstallCalls.{IsInstallRun}

-- the tables of all groups, in their order
abbrev pub tables_of_groups : List (List (ℕ × List ℕ)) → List (ℕ × List ℕ)
tables_of_groups groups = flat_map (λ (g : List (ℕ × List ℕ)). g) groups

-- what is asked of an installation: the name of the comparator and its order of keys; the version,
-- and the number of the manifest that it was opened by; the number of the new manifest, the tables
-- in groups, and the bytes of the edit
pub record InstallationView : Type 0 where
  pub name : List ℕ
  pub cmp : KeyOrder
  pub version : State
  pub opened : ℕ
  pub number : ℕ
  pub groups : List (List (ℕ × List ℕ))
  pub edit : List ℕ

abbrev pub asked_of : List ℕ → KeyOrder → State → ℕ → ℕ → List (List (ℕ × List ℕ)) → List ℕ →
    InstallationView
asked_of name cmp v opened number groups edit = record {
  name = name;
  cmp = cmp;
  version = v;
  opened = opened;
  number = number;
  groups = groups;
  edit = edit;
}

-- the bytes of its manifest
abbrev pub manifest_in : InstallationView → List ℕ
manifest_in i = manifest_bytes i.name i.cmp i.version i.edit

-- What an installation guarantees that writes its tables in groups: the edit makes the edited
-- version of this one, by a manifest of this number.
pub record IsGroupedInstallation {F X : Type 0} (g : Ghosts F) (i : InstallationView) (old new : F)
    (result : Result X Fault) : Type 0 where
  -- its calls, of which CURRENT is read again in the middle
  pub run : IsInstallRun g (calls_before_rename i.number i.groups (manifest_in i))
      (current_calls i.number) i.opened old new result
  -- If the folder stands for the version, a crash at any moment leaves it or the edited one. At Ok
  -- the folder stands for the edited one. Without a crash it reads as one of the two.
  pub survives : (order : Order) (next : State) (tables : List (ℕ × List ℕ))
      → order_name order ≡ i.name
      → IsEditedBy i.cmp i.version i.number (tables_of_groups i.groups) i.edit next
      → SurvivesCrash i.cmp order (version_with i.version tables)
      (next_with i.cmp next (tables_of_groups i.groups) tables) (change_of g old new) result
  -- at Changed the same holds with the version before in place of the edited one
  pub before : (order : Order) (next : State) (tables : List (ℕ × List ℕ))
      → order_name order ≡ i.name
      → IsEditedBy i.cmp i.version i.number (tables_of_groups i.groups) i.edit next
      → IfErr result (λ e. e ≡ fault Changed
      → SurvivesCrash i.cmp order (version_with i.version tables) (version_with i.version tables)
      (change_of g old new) result)
