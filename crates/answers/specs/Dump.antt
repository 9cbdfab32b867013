-- The lines of entries: of a dump, and of a user key.
use Rattle.std.specs.Prelude.{ℕ, List, ◌++◌, codes, Option, Some, None, Result, Ok}
use Rattle.std.specs.List.{flat_map}
use Rattle.std.specs.Fmt.{decimal}
use Rattle.table.specs.Answers.{◌>>=◌}
use Rattle.table.specs.fault.Fault.{Fault}
use Rattle.table.specs.EncodedEntry.{Entry}
use Rattle.table.specs.Bytewise.{bytewise_cmp}
use Rattle.table.specs.Key.{user_of, sequence_of, kind_of}
use Rattle.scan.specs.kind.Kind.{Kind}
use Rattle.scan.specs.kind.Kind.TheVariants.{Delete, Put}
use Rattle.table.specs.TableContents.{table_reading}
use Rattle.texts.specs.Spelling.{key_text, value_text}
use Rattle.texts.specs.declared.spelling.Spelling.{Spelling}
use Rattle.answers.specs.declared.history_lines.EntryPlace.{EntryPlace}

-- what comes after the sequence: `put VALUE` or `del`, and a newline
abbrev pub change_text : Spelling → Kind → List ℕ → List ℕ
change_text spelling Put value = codes " put " ++ (value_text spelling value ++ codes "\n")
change_text spelling Delete value = codes " del\n"

-- `KEY SEQ put VALUE` or `KEY SEQ del`
abbrev pub dump_line : Spelling → Entry → List ℕ
dump_line spelling e = key_text spelling (user_of e.key) ++ (codes " "
    ++ (decimal (sequence_of e.key) ++ change_text spelling (kind_of e.key) e.value))

-- one line for each entry, in order
abbrev pub dump_lines : Spelling → List Entry → List ℕ
dump_lines spelling entries = flat_map (dump_line spelling) entries

-- the lines of the entries of a table in bytewise order, or the first test that the bytes fail
abbrev pub table_dump : Spelling → List ℕ → Result (List ℕ) Fault
table_dump spelling bytes =
    table_reading bytewise_cmp bytes >>= λ entries. Ok (dump_lines spelling entries)

-- `LEVEL FILE SEQUENCE`, and what comes after it
abbrev pub placed : EntryPlace → List ℕ → List ℕ
placed place rest = decimal place.level ++ (codes " " ++ (decimal place.file ++ (codes " "
    ++ (decimal place.sequence ++ rest))))

-- `LEVEL FILE SEQUENCE put VALUE`, or `LEVEL FILE SEQUENCE del` without a value
abbrev pub entry_line : Spelling → EntryPlace → Option (List ℕ) → List ℕ
entry_line spelling place None = placed place (codes " del\n")
entry_line spelling place (Some value) =
    placed place (codes " put " ++ (value_text spelling value ++ codes "\n"))
