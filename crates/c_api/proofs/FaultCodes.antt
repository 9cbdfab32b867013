-- No fault has the number 0.
use Rattle.std.proofs.Common.{◌≡◌}
use Rattle.ikey.specs.Answers.{code_of}
use Rattle.ikey.specs.fault.FaultName.{FaultName}
use Rattle.ikey.specs.fault.FaultName.TheVariants.{NoInput, Level, Options, SplitOrder, SplitCount, Workers, Snapshot, Size, Short, Magic, Handle, Range, Trailer, Compressed, BlockType, Block, Key, Index, Order, Empty, Bounds, Duplicate, Numbers, TooLarge, SnapshotList, LogChecksum, LogShape, EditTag, EditField, Comparator, Apply, Lawless, Device, Missing, Locked, Changed, Logs, Memory}

pub code_some : (n : FaultName) → code_of n ≡ 0 → ⊥
code_some NoInput h = absurd cc
code_some Level h = absurd cc
code_some Options h = absurd cc
code_some SplitOrder h = absurd cc
code_some SplitCount h = absurd cc
code_some Workers h = absurd cc
code_some Snapshot h = absurd cc
code_some Size h = absurd cc
code_some Short h = absurd cc
code_some Magic h = absurd cc
code_some Handle h = absurd cc
code_some Range h = absurd cc
code_some Trailer h = absurd cc
code_some Compressed h = absurd cc
code_some BlockType h = absurd cc
code_some Block h = absurd cc
code_some Key h = absurd cc
code_some Index h = absurd cc
code_some Order h = absurd cc
code_some Empty h = absurd cc
code_some Bounds h = absurd cc
code_some Duplicate h = absurd cc
code_some Numbers h = absurd cc
code_some TooLarge h = absurd cc
code_some SnapshotList h = absurd cc
code_some LogChecksum h = absurd cc
code_some LogShape h = absurd cc
code_some EditTag h = absurd cc
code_some EditField h = absurd cc
code_some Comparator h = absurd cc
code_some Apply h = absurd cc
code_some Lawless h = absurd cc
code_some Device h = absurd cc
code_some Missing h = absurd cc
code_some Locked h = absurd cc
code_some Changed h = absurd cc
code_some Logs h = absurd cc
code_some Memory h = absurd cc
