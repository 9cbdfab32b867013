-- What the steps of a search in a folder answer.
use Rattle.std.specs.Prelude.{◌≡◌, ◌⊎◌, ℕ, ◌+◌, nat_le, if◌then◌else◌, List, Option, Some, length}
use Rattle.std.specs.Prelude.{Result, Ok, Err, IsErrAnd, string_bytes}
use Rattle.table.specs.Answers.{fault, ◌>>=◌}
use Rattle.table.specs.fault.Fault.{Fault}
use Rattle.table.specs.fault.FaultName.{FaultName}
use Rattle.table.specs.fault.FaultName.TheVariants.{Range}
use Rattle.table.specs.Footer.{footer_reading}
use Rattle.table.specs.declared.footer.TheConstants.{FOOTER_LEN}
use Rattle.table.specs.declared.handle.BlockHandle.{BlockHandle}
use Rattle.table.specs.declared.trailer.TheConstants.{TRAILER_LEN}
use Rattle.scan.specs.Excuses.{IsExcuse}
use Rattle.scan.specs.FolderTables.{TellsJust}
use Rattle.scan.specs.declared.file_parts.TableFile.{TableFile}

-- the folder tells just these bytes of a file, and their number is its length
abbrev pub IsFileOfBytes : (List ℕ → Option (List ℕ) → Type 0) → TableFile → List ℕ → Type 0
IsFileOfBytes tells file bytes = TellsJust tells (string_bytes file.name) (Some bytes)
    × (file.size ≡ length bytes)

-- the length of a stored block with its trailer, in a table of this size; Range unless it is before
-- the footer
abbrev pub len_with_trailer : ℕ → BlockHandle → Result ℕ Fault
len_with_trailer size handle =
    if nat_le (handle.offset + handle.size + TRAILER_LEN + FOOTER_LEN) size then Ok (handle.size
    + TRAILER_LEN) else Err (fault Range)

-- the handle of the index in the footer of a table of this size, if it and that of the metaindex
-- point before the footer
abbrev pub index_handle : ℕ → List ℕ → Result BlockHandle Fault
index_handle size bytes = do
  footer ← footer_reading bytes
  _ ← len_with_trailer size footer.metaindex
  _ ← len_with_trailer size footer.index
  Ok footer.index

-- a call is refused by this name, or by Device or Memory
abbrev pub Refuses : {X : Type 0} → Result X Fault → FaultName → Type 0
Refuses result name = IsErrAnd result (λ e. (e ≡ fault name) ⊎ IsExcuse e)
