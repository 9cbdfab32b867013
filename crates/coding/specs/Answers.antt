-- What a call answers, if it may also answer Memory; and readings in several steps.
use Rattle.std.specs.Prelude.{◌≡◌, ℕ, Option, Some, None, Result, Ok, Err}
use Rattle.coding.specs.declared.fault.Fault.{Fault}
use Rattle.coding.specs.declared.fault.FaultName.{FaultName}
use Rattle.coding.specs.declared.fault.FaultName.TheVariants.{NoInput, Level, Options, SplitOrder}
use Rattle.coding.specs.declared.fault.FaultName.TheVariants.{SplitCount, Workers, Snapshot, Size}
use Rattle.coding.specs.declared.fault.FaultName.TheVariants.{Short, Magic, Handle, Range, Trailer}
use Rattle.coding.specs.declared.fault.FaultName.TheVariants.{Compressed, BlockType, Block, Key}
use Rattle.coding.specs.declared.fault.FaultName.TheVariants.{Index, Order, Empty, Bounds}
use Rattle.coding.specs.declared.fault.FaultName.TheVariants.{Duplicate, Numbers, TooLarge}
use Rattle.coding.specs.declared.fault.FaultName.TheVariants.{SnapshotList, LogChecksum, LogShape}
use Rattle.coding.specs.declared.fault.FaultName.TheVariants.{EditTag, EditField, Comparator, Apply}
use Rattle.coding.specs.declared.fault.FaultName.TheVariants.{Lawless, Device, Missing, Locked}
use Rattle.coding.specs.declared.fault.FaultName.TheVariants.{Changed, Logs, Memory}

-- the fault of this name, about no input
abbrev pub fault : FaultName → Fault
fault n = record { name = n; input = None }

-- the number of each name
abbrev pub code_of : FaultName → ℕ
code_of NoInput = 1
code_of Level = 2
code_of Options = 3
code_of SplitOrder = 4
code_of SplitCount = 5
code_of Workers = 6
code_of Snapshot = 7
code_of Size = 8
code_of Short = 9
code_of Magic = 10
code_of Handle = 11
code_of Range = 12
code_of Trailer = 13
code_of Compressed = 14
code_of BlockType = 15
code_of Block = 16
code_of Key = 17
code_of Index = 18
code_of Order = 19
code_of Empty = 20
code_of Bounds = 21
code_of Duplicate = 22
code_of Numbers = 23
code_of TooLarge = 24
code_of SnapshotList = 25
code_of LogChecksum = 30
code_of LogShape = 31
code_of EditTag = 32
code_of EditField = 33
code_of Comparator = 34
code_of Apply = 35
code_of Lawless = 36
code_of Device = 40
code_of Missing = 41
code_of Locked = 42
code_of Changed = 43
code_of Logs = 44
code_of Memory = 99

-- P, unless the name is Memory and there is no input
abbrev pub UnlessNamed : FaultName → Option ℕ → Type 0 → Type 0
UnlessNamed Memory None P = Unit {0}
UnlessNamed _ _ P = P

-- P, unless the fault is Memory, about no input
abbrev pub UnlessMemory : Fault → Type 0 → Type 0
UnlessMemory e P = UnlessNamed e.name e.input P

-- the error is Memory, or the refusal that the definition answers
abbrev pub FailsOrMemory : {Y : Type 0} → Fault → Result Y Fault → Type 0
FailsOrMemory e answer = UnlessMemory e (answer ≡ Err e)

-- The call's result, seen by view, is the definition's answer, or Memory.
abbrev pub EqualOrMemory : {X Y : Type 0} → (X → Y) → Result X Fault → Result Y Fault → Type 0
EqualOrMemory view (Ok x) answer = answer ≡ Ok (view x)
EqualOrMemory view (Err e) answer = FailsOrMemory e answer

-- the ? of the logic
infixl 10 ◌>>=◌
abbrev pub ◌>>=◌ : {A B : Type 0} → Result A Fault → (A → Result B Fault) → Result B Fault
(Ok x) >>= f = f x
(Err e) >>= f = Err e

-- the ? of the logic, for readings without a refusal of their own
abbrev pub and_then : {A B : Type 0} → Option A → (A → Option B) → Option B
and_then None f = None
and_then (Some x) f = f x

-- The call's result, seen by view, is an answer as IsAnswer says, or Memory.
abbrev pub HoldsOrMemory : {X Y : Type 0} → (X → Y) → Result X Fault → (Result Y Fault → Type 0) →
    Type 0
HoldsOrMemory view (Ok x) IsAnswer = IsAnswer (Ok (view x))
HoldsOrMemory view (Err e) IsAnswer = UnlessMemory e (IsAnswer (Err e))

-- the answer after a first one: IsNext of its value, or the same refusal
abbrev pub Follows : {A B : Type 0} → (A → Result B Fault → Type 0) → Result A Fault →
    Result B Fault → Type 0
Follows IsNext (Ok x) answer = IsNext x answer
Follows IsNext (Err e) answer = answer ≡ Err e

-- the answer of two steps, one after the other
abbrev pub IsThen : {A B : Type 0} → (Result A Fault → Type 0) → (A → Result B Fault → Type 0) →
    Result B Fault → Type 0
IsThen {A} IsFirst IsNext answer = (first : Result A Fault)
    × (IsFirst first × Follows IsNext first answer)
