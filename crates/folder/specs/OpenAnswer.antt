-- Opening a folder: what is read in which order, and how failures of the device are answered.
use Rattle.std.specs.Prelude.{◌≡◌, ◌≢◌, ◌⊎◌, ℕ, ◌<◌, List, [], ◌∷◌, ◌++◌, codes, Some, None, Result}
use Rattle.std.specs.Prelude.{Ok, Err, IsErrOf, OnOk}
use Rattle.ikey.specs.Answers.{UnlessMemory, fault, IsThen}
use Rattle.ikey.specs.fault.Fault.{Fault}
use Rattle.ikey.specs.fault.FaultName.{FaultName}
use Rattle.ikey.specs.fault.FaultName.TheVariants.{LogChecksum, LogShape, EditTag}
use Rattle.ikey.specs.fault.FaultName.TheVariants.{EditField, Comparator, Apply, Device}
use Rattle.ikey.specs.fault.FaultName.TheVariants.{Missing}
use Rattle.edit.specs.Version.{State}
use Rattle.folder.specs.Folder.{DeviceFailed}
use Rattle.folder.specs.Manifest.{IsManifestAnswer}
use Rattle.folder.specs.Names.{IsNumberAnswer, current_text, manifest_name}
use Rattle.folder.specs.declared.folder.Folder.{Ghosts}
use Rattle.folder.specs.declared.order.Order.{Order}
use Rattle.folder.specs.Calls.{Files, Tells, ToldFiles}

-- the device failed during the call, and Device is the answer
abbrev pub IsStopped : ℕ → ℕ → Fault → Type 0
IsStopped before now e = (e ≡ fault Device) × DeviceFailed before now

-- Device is answered only if the device failed during the call.
abbrev pub HasDeviceFailed : ℕ → ℕ → Fault → Type 0
HasDeviceFailed before now e = e.name ≡ Device → DeviceFailed before now

-- If the count of failures rose during the call, Device is the answer.
abbrev pub StopsAtDevice : {X : Type 0} → ℕ → ℕ → Result X Fault → Type 0
StopsAtDevice before now result = before < now → IsErrOf result (fault Device)

-- A call on a folder has this answer, seen by view, or Device if the device failed during the call.
-- Memory aside. The count of failures was `before`, and is `now` after the call.
abbrev pub FolderAnswers : {X Y : Type 0} → (X → Y) → ℕ → ℕ → Result X Fault →
    (Result Y Fault → Type 0) → Type 0
FolderAnswers view before now (Ok x) IsAnswer = IsAnswer (Ok (view x))
FolderAnswers view before now (Err e) IsAnswer =
    UnlessMemory e (IsStopped before now e ⊎ IsAnswer (Err e))

-- the bytes under a name, or Missing if there is no file
abbrev pub IsFileReading : ToldFiles → List ℕ → Result (List ℕ) Fault → Type 0
IsFileReading tells name (Ok bytes) = tells name (Some bytes)
IsFileReading tells name (Err e) = tells name None × (e ≡ fault Missing)

-- What opening answers: CURRENT is read, then its form is tested, then the manifest that it names
-- is read, then the manifest's bytes.
abbrev pub IsOpened : ToldFiles → Result (Order × State) Fault → Type 0
IsOpened tells = IsThen (IsFileReading tells (codes "CURRENT")) (λ current.
    IsThen (IsNumberAnswer current) (λ number.
    IsThen (IsFileReading tells (manifest_name number)) (IsManifestAnswer number)))

-- A version was opened: CURRENT was read, then the manifest of this number, which CURRENT names,
-- and no other file. The bytes of that manifest give this order and version.
pub record IsVersionRead {F : Type 0} (g : Ghosts F) (old new : F) (order : Order) (v : State)
    (manifest : ℕ) : Type 0 where
  pub bytes : List ℕ
  pub read : g.readings new ≡ g.readings old
      ++ (g.calls old, codes "CURRENT", Some (current_text manifest))
      ∷ ((g.calls old, manifest_name manifest, Some bytes) ∷ [])
  pub gives : IsManifestAnswer manifest bytes (Ok (order, v))

-- the refusals that come of what a folder holds; Device and Memory are not among them
abbrev pub IsOfContents : FaultName → Type 0
IsOfContents Missing = Unit {0}
IsOfContents LogShape = Unit {0}
IsOfContents LogChecksum = Unit {0}
IsOfContents EditTag = Unit {0}
IsOfContents EditField = Unit {0}
IsOfContents Comparator = Unit {0}
IsOfContents Apply = Unit {0}
IsOfContents _ = ⊥

-- It is so if the folder tells files, of which CURRENT names the manifest of this number.
abbrev pub IfCurrent : ToldFiles → ℕ → (Files → Type 0) → Type 0
IfCurrent tells manifest IsSo = (files : Files) → Tells tells files →
    files (codes "CURRENT") ≡ Some (current_text manifest) → IsSo files

-- The answer is never Ok if the folder tells files, of which CURRENT names no such manifest.
abbrev pub IsOkOnlyIfCurrent : {X : Type 0} → ToldFiles → ℕ → Result X Fault → Type 0
IsOkOnlyIfCurrent tells manifest result = (files : Files) → Tells tells files →
    files (codes "CURRENT") ≢ Some (current_text manifest) → OnOk result ⊥
