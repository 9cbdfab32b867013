-- The lines and the status of faults, and the line of a valid table.
use Rattle.std.specs.Prelude.{ℕ, List, ◌++◌, codes, decimal, length, Result, Ok}
use Rattle.table.specs.Answers.{◌>>=◌}
use Rattle.table.specs.Saturated.{saturated}
use Rattle.table.specs.fault.Fault.{Fault}
use Rattle.table.specs.fault.FaultName.{FaultName}
use Rattle.table.specs.fault.FaultName.TheVariants as fault_name
use Rattle.table.specs.EncodedEntry.{Entry}
use Rattle.table.specs.Bytewise.{bytewise_cmp}
use Rattle.table.specs.TableContents.{table_reading}
use Rattle.texts.specs.Spelling.{key_text}
use Rattle.texts.specs.declared.spelling.Spelling.{Spelling}
use Rattle.faults.specs.declared.file_fault.FileFault.{FileFault}
use Rattle.faults.specs.declared.file_fault.FileFault.TheVariants.{NotBelow, Refused, Length}
use Rattle.faults.specs.declared.file_fault.FileFault.TheVariants.{Smallest, Largest, Overlaps}

-- the name of a fault as text
abbrev pub name_text : FaultName → List ℕ
name_text fault_name.NoInput = codes "NoInput"
name_text fault_name.Level = codes "Level"
name_text fault_name.Options = codes "Options"
name_text fault_name.SplitOrder = codes "SplitOrder"
name_text fault_name.SplitCount = codes "SplitCount"
name_text fault_name.Workers = codes "Workers"
name_text fault_name.Snapshot = codes "Snapshot"
name_text fault_name.Size = codes "Size"
name_text fault_name.Short = codes "Short"
name_text fault_name.Magic = codes "Magic"
name_text fault_name.Handle = codes "Handle"
name_text fault_name.Range = codes "Range"
name_text fault_name.Trailer = codes "Trailer"
name_text fault_name.Compressed = codes "Compressed"
name_text fault_name.BlockType = codes "BlockType"
name_text fault_name.Block = codes "Block"
name_text fault_name.Key = codes "Key"
name_text fault_name.Index = codes "Index"
name_text fault_name.Order = codes "Order"
name_text fault_name.Empty = codes "Empty"
name_text fault_name.Bounds = codes "Bounds"
name_text fault_name.Duplicate = codes "Duplicate"
name_text fault_name.Numbers = codes "Numbers"
name_text fault_name.TooLarge = codes "TooLarge"
name_text fault_name.SnapshotList = codes "SnapshotList"
name_text fault_name.LogChecksum = codes "LogChecksum"
name_text fault_name.LogShape = codes "LogShape"
name_text fault_name.EditTag = codes "EditTag"
name_text fault_name.EditField = codes "EditField"
name_text fault_name.Comparator = codes "Comparator"
name_text fault_name.Apply = codes "Apply"
name_text fault_name.Lawless = codes "Lawless"
name_text fault_name.Device = codes "Device"
name_text fault_name.Missing = codes "Missing"
name_text fault_name.Locked = codes "Locked"
name_text fault_name.Changed = codes "Changed"
name_text fault_name.Logs = codes "Logs"
name_text fault_name.Memory = codes "Memory"

-- the status of a refusal: 3 for Device, else 1
abbrev pub status_of : FaultName → ℕ
status_of fault_name.Device = 3
status_of _ = 1

-- the line of what is wrong with the file of a number
abbrev pub file_fault_line : ℕ → FileFault → List ℕ
file_fault_line number (NotBelow next) =
    decimal number ++ (codes " not below " ++ (decimal next ++ codes "\n"))
file_fault_line number (Refused name) =
    decimal number ++ (codes " " ++ (name_text name ++ codes "\n"))
file_fault_line number (Length held stated) =
    decimal number ++ (codes " length " ++ (decimal held ++ (codes ", not " ++ (decimal stated
    ++ codes "\n"))))
file_fault_line number Smallest = decimal number ++ codes " smallest\n"
file_fault_line number Largest = decimal number ++ codes " largest\n"
file_fault_line number (Overlaps other) =
    decimal number ++ (codes " overlaps " ++ (decimal other ++ codes "\n"))

-- the line of a user key whose entries are not in their order, with two files that hold it
abbrev pub key_fault_line : Spelling → List ℕ → ℕ → ℕ → List ℕ
key_fault_line spelling user file other =
    codes "key " ++ (key_text spelling user ++ (codes " " ++ (decimal file ++ (codes " "
    ++ (decimal other ++ codes "\n")))))

-- `faults: N`
abbrev pub fault_count_line : ℕ → List ℕ
fault_count_line count = codes "faults: " ++ decimal count ++ codes "\n"

-- `valid: E entries`
abbrev pub valid_line : ℕ → List ℕ
valid_line entries = codes "valid: " ++ decimal entries ++ codes " entries\n"

-- how many entries these are, 2^64 - 1 if there are more
abbrev pub counted_entries : List Entry → ℕ
counted_entries entries = saturated (length entries)

-- the count of a table in bytewise order, or the first test that its bytes fail
abbrev pub table_count : List ℕ → Result ℕ Fault
table_count bytes = table_reading bytewise_cmp bytes >>= λ entries. Ok (counted_entries entries)

-- the line of that
abbrev pub table_verdict : List ℕ → Result (List ℕ) Fault
table_verdict bytes = table_count bytes >>= λ count. Ok (valid_line count)
