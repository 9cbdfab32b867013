-- What follows a compaction of a row after which files are removed that the version doesn't need.
use Rattle.std.specs.Global.{Global, Vec}
use Rattle.std.specs.Prelude.{Bool, Err, IsOkAnd, List, None, Ok, Option, Result, Some, String}
use Rattle.std.specs.Prelude.{false, map, string_bytes, ℕ, ◌≡◌, ◌⊎◌}
use Rattle.folder.specs.Answers.{fault}
use Rattle.folder.specs.Orders.{order_cmp}
use Rattle.folder.specs.Version.{State}
use Rattle.folder.specs.declared.order.Order.{Order}
use Rattle.folder.specs.fault.Fault.{Fault}
use Rattle.folder.specs.fault.FaultName.TheVariants.{Memory}
use Rattle.install.specs.FolderChange.{FolderChange, IsUntouched}
use Rattle.install.specs.ObsoleteFile.{AreObsolete}
pub use Rattle.install.specs.ReadsOf.{NamedVersion}
use Rattle.install.specs.Removal.{AreRemoved}
use Rattle.store.specs.Step.{StepView}

-- Who is told of compactions and of removals: how it changes when it is told of a step, asked for
-- names, told of a file that was removed, and told that all are.
pub record CleanTeller (W : Type 0) : Type 1 where
  pub installs : W → StepView → Bool → W → Type 0
  pub lists : W → Option (List (List ℕ)) → W → Type 0
  pub removes : W → List ℕ → W → Type 0
  pub ends : W → Bool → W → Type 0

abbrev pub teller_by : {W : Type 0} → (W → StepView → Bool → W → Type 0) →
    (W → Option (List (List ℕ)) → W → Type 0) → (W → List ℕ → W → Type 0) →
    (W → Bool → W → Type 0) → CleanTeller W
teller_by installs lists removes ends =
    record { installs = installs; lists = lists; removes = removes; ends = ends }

abbrev pub named_version : Order → State → ℕ → NamedVersion
named_version order version manifest =
    record { order = order; version = version; manifest = manifest }

-- the names that are given to remove, as texts
abbrev pub names_in : Option (Vec (String Global)) → Option (List (List ℕ))
names_in None = None
names_in (Some names) = Some (map string_bytes names.items)

-- all is told to be removed, and a value is answered as it was said whether to go on
abbrev pub IsEndTold : {W T : Type 0} → (W → Bool → W → Type 0) → W → W → (Bool → T → Type 0) →
    Result T Fault → Type 0
IsEndTold ends told told_now IsAsTold (Ok x) =
    (goes : Bool) × ends told goes told_now × IsAsTold goes x
IsEndTold ends told told_now IsAsTold (Err e) = told_now ≡ told

-- No names were given: nothing was removed, and it stops. Or there was no memory. Or the obsolete
-- ones of these names were removed, up to a call that failed, and then the folder was synced. Each
-- was told.
abbrev pub IsListRemoved : {W T : Type 0} → CleanTeller W → NamedVersion → FolderChange → W → W →
    (Bool → T → Type 0) → Option (List (List ℕ)) → Result T Fault → Type 0
IsListRemoved by v change told told_now IsAsTold None result =
    IsUntouched change told told_now × IsOkAnd result (IsAsTold false)
IsListRemoved {W = W} by v change told told_now IsAsTold (Some names) result =
    (IsUntouched change told told_now × (result ≡ Err (fault Memory)))
    ⊎ ((last : W) × AreRemoved by.removes
    (AreObsolete (order_cmp v.order) v.version v.manifest names) change told last result
    × IsEndTold by.ends last told_now IsAsTold result)

-- It was asked for names of files. If there are any, the obsolete ones were removed.
pub record IsCleaned {W T : Type 0} (by : CleanTeller W) (v : NamedVersion)
    (change : FolderChange) (told told_now : W) (IsAsTold : Bool → T → Type 0)
    (result : Result T Fault) : Type 0 where
  pub names : Option (List (List ℕ))
  pub listed : W
  pub lists : by.lists told names listed
  pub removal : IsListRemoved by v change listed told_now IsAsTold names result
