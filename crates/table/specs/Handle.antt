-- A block handle: where a block is in its file, by its offset and the size of its contents.
use Rattle.std.specs.Prelude.{◌≡◌, ℕ, ◌<◌, ◌^◌, ◌↔◌, List, ◌++◌, drop, Option, Some}
use Rattle.coding.specs.Answers.{and_then}
use Rattle.coding.specs.Varint.{varint, varint_reading}
use Rattle.table.specs.declared.handle.BlockHandle.{BlockHandle}

-- the one spelling of a handle: two varints
unfoldable pub handle_bytes : ℕ → ℕ → List ℕ
handle_bytes offset size = varint offset ++ varint size

-- a handle at the front of bytes, and the bytes after it
pub record HandleBehind : Type 0 where
  pub handle : BlockHandle
  pub rest : List ℕ

-- the handle whose spelling begins the bytes, its numbers below 2 ^ 64, and the bytes after it
unfoldable pub handle_reading : List ℕ → Option HandleBehind
handle_reading bytes =
    and_then (varint_reading (2 ^ 64) bytes) (λ offset.
    and_then (varint_reading (2 ^ 64) (drop offset.1 bytes)) (λ size.
    Some (record {
      handle = record { offset = offset.0; size = size.0 };
      rest = drop size.1 (drop offset.1 bytes);
    })))

-- a handle is read exactly if its spelling begins the bytes
abbrev pub HandleReadLaw : Type 0
HandleReadLaw = (bytes : List ℕ) (offset size : ℕ) (rest : List ℕ) →
    (handle_reading bytes
    ≡ Some (record { handle = record { offset = offset; size = size }; rest = rest })) ↔
    ((offset < 2 ^ 64) × (size < 2 ^ 64) × (bytes ≡ handle_bytes offset size ++ rest))
