-- The data blocks that a list of entries is cut into. A data block ends with the entry that makes
-- its bytes reach the block size; the last one may stay below it.
use Rattle.std.specs.Prelude.{◌≡◌, ◌≢◌, ℕ, ◌+◌, ◌<◌, nat_le, Bool, true, false, if◌then◌else◌, List}
use Rattle.std.specs.Prelude.{[], ◌∷◌, ◌++◌, length, take, ◌⊎◌, ◌↔◌}
use Rattle.std.specs.List.{sum_by}
use Rattle.block.specs.EncodedEntry.{Entry}
use Rattle.block.specs.BlockFormat.{block}
use Rattle.table.specs.declared.trailer.TheConstants.{TRAILER_LEN}
use Rattle.table.specs.declared.options.Options.{Options}

-- whether there is an entry, and the block of the entries has reached the block size
abbrev pub is_full : Options → List Entry → Bool
is_full o [] = false
is_full o (e ∷ es) = nat_le o.block_size (length (block o.restart_interval (e ∷ es)))

-- the open data block, if it has an entry
abbrev pub open_block : List Entry → List (List Entry)
open_block [] = []
open_block (e ∷ es) = (e ∷ es) ∷ []

-- the data blocks of the open block's entries `latest` and those after them
abbrev pub blocks_after : Options → List Entry → List Entry → List (List Entry)
blocks_after o latest [] = open_block latest
blocks_after o latest (e ∷ es) =
    if is_full o latest then latest ∷ blocks_after o (e ∷ []) es
    else blocks_after o (latest ++ e ∷ []) es

-- the data blocks of a list
unfoldable pub data_blocks : Options → List Entry → List (List Entry)
data_blocks o q = blocks_after o [] q

-- p is a data block, with these entries after it. It has an entry, no shorter beginning of it is
-- full, and it is full itself unless nothing comes after it.
pub record IsDataBlock (o : Options) (p rest : List Entry) : Type 0 where
  pub some : p ≢ []
  pub shortest : (n : ℕ) → n < length p → is_full o (take n p) ≡ false
  pub full : (is_full o p ≡ true) ⊎ (rest ≡ [])

-- the parts are the data blocks of the list: the first is one, with the entries of the others after
-- it
abbrev pub AreDataBlocks : Options → List Entry → List (List Entry) → Type 0
AreDataBlocks o q [] = q ≡ []
AreDataBlocks o q (p ∷ ps) = (rest : List Entry) × (q ≡ p ++ rest) × IsDataBlock o p rest
    × AreDataBlocks o rest ps

-- each list has these data blocks and no others
abbrev pub DataBlocksLaw : Type 0
DataBlocksLaw = (o : Options) (q : List Entry) (parts : List (List Entry)) →
    AreDataBlocks o q parts ↔ (data_blocks o q ≡ parts)

-- what a data block adds to the flushed size: its bytes and the 5 of its trailer, if it is full
abbrev pub flushed_len : Options → List Entry → ℕ
flushed_len o p = if is_full o p then length (block o.restart_interval p) + TRAILER_LEN else 0

-- the flushed size of a list: of all its data blocks, an open last one not counted
unfoldable pub flushed : Options → List Entry → ℕ
flushed o q = sum_by (flushed_len o) (data_blocks o q)
