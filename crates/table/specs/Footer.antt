-- A footer, the last 48 bytes of a table: the handles of the metaindex and of the index, zeros up
-- to 40 bytes, and 8 bytes of magic.
use Rattle.std.specs.Prelude.{◌≡◌, ℕ, ◌-◌, ◌<◌, ◌^◌, nat_eq, not, if◌then◌else◌, List, [], ◌∷◌}
use Rattle.std.specs.Prelude.{◌++◌, length, take, drop, replicate, Option, Some, Result, Ok, Err}
use Rattle.std.specs.List.{starts_with}
use Rattle.std.specs.Option.{ok_or}
use Rattle.coding.specs.Answers.{and_then, fault}
use Rattle.coding.specs.declared.fault.Fault.{Fault}
use Rattle.coding.specs.declared.fault.FaultName.TheVariants.{Magic, Handle}
use Rattle.table.specs.declared.footer.Footer.{Footer}
use Rattle.table.specs.Handle.{handle_bytes, handle_reading}
use Rattle.table.specs.declared.footer.TheConstants.{HANDLES_LEN}

-- the number 0xdb4775248b80fb57, lowest byte first
abbrev pub magic : List ℕ
magic = 0x57 ∷ 0xfb ∷ 0x80 ∷ 0x8b ∷ 0x24 ∷ 0x75 ∷ 0x47 ∷ 0xdb ∷ []

-- the handles of a footer, one after the other
abbrev pub handles_bytes : Footer → List ℕ
handles_bytes f =
    handle_bytes f.metaindex.offset f.metaindex.size ++ handle_bytes f.index.offset f.index.size

-- the 48 bytes of a footer
unfoldable pub footer_bytes : Footer → List ℕ
footer_bytes f = handles_bytes f ++ (replicate (HANDLES_LEN - length (handles_bytes f)) 0 ++ magic)

-- two handles at the front of bytes; what comes after them isn't tested
abbrev pub handles_reading : List ℕ → Option Footer
handles_reading bytes =
    and_then (handle_reading bytes) (λ metaindex.
    and_then (handle_reading metaindex.rest) (λ index.
    Some (record { metaindex = metaindex.handle; index = index.handle })))

-- The footer that 48 bytes are, or the first test that fails: the magic is after 40 bytes, and
-- those begin with two handles.
unfoldable pub footer_reading : List ℕ → Result Footer Fault
footer_reading bytes =
    if not (starts_with nat_eq (drop HANDLES_LEN bytes) magic) then Err (fault Magic)
    else ok_or (handles_reading (take HANDLES_LEN bytes)) (fault Handle)

-- a footer that was written is read as it was
abbrev pub FooterLaw : Type 0
FooterLaw = (f : Footer) → f.metaindex.offset < 2 ^ 64 → f.metaindex.size < 2 ^ 64 →
    f.index.offset < 2 ^ 64 → f.index.size < 2 ^ 64 →
    footer_reading (footer_bytes f) ≡ Ok f
