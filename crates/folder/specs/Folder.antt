-- What the calls of a folder guarantee.
use Rattle.std.specs.Prelude.{◌≡◌, ◌⊎◌, ◌↔◌, ℕ, ◌+◌, ◌<◌, ◌^◌, ◌-◌, nat_eq, if◌then◌else◌, List}
use Rattle.std.specs.Prelude.{take, drop, Option, Result, Ok, Err}
use Rattle.std.specs.Option.{option_map}
use Rattle.ikey.specs.fault.FaultName.{FaultName}
use Rattle.ikey.specs.fault.FaultName.TheVariants as name
use Rattle.folder.specs.Calls.{ToldFiles}
use Rattle.folder.specs.declared.folder.FolderFault.{FolderFault}
use Rattle.folder.specs.declared.folder.FolderFault.TheVariants.{Device, Memory}

-- the name of a folder's fault among all faults
abbrev pub fault_name : FolderFault → FaultName
fault_name Device = name.Device
fault_name Memory = name.Memory

-- one more failure: the count stays at 2^64 - 1
abbrev pub one_more : ℕ → ℕ
one_more n = if nat_eq n (2 ^ 64 - 1) then n else n + 1

-- the count of failures after a call: one more if it answers Device, else as before
abbrev pub failures_after : {T : Type 0} → ℕ → Result T FolderFault → ℕ
failures_after before (Ok x) = before
failures_after before (Err Device) = one_more before
failures_after before (Err Memory) = before

-- The device failed during a call: the count of failures rose, or it was 2^64 - 1 before.
abbrev pub DeviceFailed : ℕ → ℕ → Type 0
DeviceFailed before now = (before < now) ⊎ (before ≡ 2 ^ 64 - 1)

-- the folder tells the same as before
abbrev pub TellsSame : ToldFiles → ToldFiles → Type 0
TellsSame old new = (name : List ℕ) (held : Option (List ℕ)) → old name held ↔ new name held

-- whatever the first tells, the second tells too
abbrev pub IsToldBy : ToldFiles → ToldFiles → Type 0
IsToldBy one other = (name : List ℕ) (held : Option (List ℕ)) → one name held → other name held

-- at most this many bytes, from an offset on
abbrev pub part_of : ℕ → ℕ → List ℕ → List ℕ
part_of offset len bytes = take len (drop offset bytes)

-- A read of a part may give this: that part of what a read of the whole may give, or None for no
-- file.
abbrev pub TellsPart : (List ℕ → Option (List ℕ) → Type 0) → List ℕ → ℕ → ℕ → Option (List ℕ) →
    Type 0
TellsPart tells name offset len part = (held : Option (List ℕ))
    × (tells name held × (option_map (part_of offset len) held ≡ part))
