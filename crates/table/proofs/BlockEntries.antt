-- The entries of blocks, by their bytes.
use Rattle.std.proofs.Common.{◌≡◌, ℕ, ◌+◌, ◌-◌, ◌*◌, ◌^◌, ◌<◌, ◌≤◌, List, [], ◌∷◌, ◌++◌, length, map, take, drop, refl, ap, ◌∙◌, append_assoc, arith}
use Rattle.std.specs.List.{flat_map, AllByRecursion}
use Rattle.std.proofs.Math.Seq.{take-append_seam}
use Rattle.std.proofs.lemmas.List.{drop_at}
use Rattle.byteorder.specs.Endian.{little_bytes, little_number}
use Rattle.block.specs.EncodedEntry.{Entry, EncodedEntry, encoded_entry_bytes, restarts_of, block_bytes}
use Rattle.block.specs.EntriesOfBytes.{entries_of_encoded}
use Rattle.block.specs.BlockFormat.{encoded_entries_from, block}
use Rattle.block.specs.BlockParts.{HasBlockParts}
use Rattle.block.proofs.Restarts.{words, length-words}
use Rattle.block.proofs.Splits.{split_count}
use Rattle.block.proofs.Pieces.{AreWide-of, entries_of_encoded-pieces}
use Rattle.block.proofs.Written.{AreOfBlock-pieces_from, entries_after-pieces_from}
use Rattle.block.proofs.Built.{length-restarts_of}
use Rattle.table.specs.Trailer.{stored_block, trailer_bytes}
use Rattle.table.proofs.Stored.{length-stored}
use Rattle.table.specs.declared.flushed_block.FlushedBlock.{FlushedBlock}
use Rattle.table.specs.Table.{IndexKeys, stored_blocks}
use Rattle.table.specs.FlushedBlocks.{index_before}
use Rattle.table.specs.BuilderState.{block_entries, blocks_in}

-- a block gives the entries back
pub block_entries-block : (r : ℕ) (q : List Entry) → length (block r q) ≤ 2 ^ 31 → block_entries (block r q) ≡ q
unfolding block_entries block
block_entries-block r q fits =
    let ps : List EncodedEntry = encoded_entries_from r 0 [] q in
    let area : List ℕ = flat_map encoded_entry_bytes ps in
    let bytes : List ℕ = block_bytes ps in
    let lawful = AreOfBlock-pieces_from r q fits in
    let count : length (restarts_of ps) < 2 ^ 32 = lawful.restarts.0 in
    let some : 0 < length (restarts_of ps) = omega (arith, length-restarts_of r q) in
    let split : HasBlockParts bytes area (words (restarts_of ps)) = record { count = length (restarts_of ps); some = some; fits = count; len = length-words (restarts_of ps); whole = refl } in
    let c = split_count bytes area (words (restarts_of ps)) split in
    let at : length bytes - (4 * little_number 4 (drop (length bytes - 4) bytes) + 4) ≡ length area = omega (arith, c.0, c.1) in
    ap (λ (n : ℕ). entries_of_encoded [] (take n bytes)) at
    ∙ ap (entries_of_encoded []) (take-append_seam area (words (restarts_of ps) ++ little_bytes 4 (length (restarts_of ps))))
    ∙ entries_of_encoded-pieces [] ps (AreWide-of 0 ps lawful.pieces)
    ∙ entries_after-pieces_from r 0 [] q

-- the sizes of blocks
abbrev pub sizes_of : ℕ → List (List Entry) → List ℕ
sizes_of r parts = map (λ p. length (block r p)) parts

-- blocks with their trailers give their entries back
pub blocks_in-stored : (r : ℕ) (parts : List (List Entry)) → AllByRecursion (λ p. length (block r p) ≤ 2 ^ 31) parts → blocks_in (stored_blocks r parts) (sizes_of r parts) ≡ parts
blocks_in-stored r [] h = refl
blocks_in-stored r (p ∷ ps) h =
    let b : List ℕ = block r p in
    let rest : List ℕ = stored_blocks r ps in
    let grouped : stored_block b ++ rest ≡ b ++ (trailer_bytes b ++ rest) = append_assoc b (trailer_bytes b) rest in
    let front : take (length b) (stored_block b ++ rest) ≡ b = ap (take (length b)) grouped ∙ take-append_seam b (trailer_bytes b ++ rest) in
    let behind : drop (length b + 5) (stored_block b ++ rest) ≡ rest = drop_at (stored_block b) rest (length b + 5) (length-stored b) in
    ap (λ (x : List ℕ). block_entries x ∷ blocks_in (drop (length b + 5) (stored_block b ++ rest)) (sizes_of r ps)) front
    ∙ ap (λ (x : List Entry). x ∷ blocks_in (drop (length b + 5) (stored_block b ++ rest)) (sizes_of r ps)) (block_entries-block r p h.0)
    ∙ ap (λ (x : List ℕ). p ∷ blocks_in x (sizes_of r ps)) behind
    ∙ ap (λ (x : List (List Entry)). p ∷ x) (blocks_in-stored r ps h.1)

-- the sizes in the index are those of the blocks
pub sizes-index_before : (keys : IndexKeys) (r at : ℕ) (parts : List (List Entry)) (behind : List ℕ) → map (λ (i : FlushedBlock). i.handle.size) (index_before keys r at parts behind) ≡ sizes_of r parts
sizes-index_before keys r at [] behind = refl
sizes-index_before keys r at (p ∷ ps) behind =
    ap (λ (x : List ℕ). length (block r p) ∷ x) (sizes-index_before keys r (at + length (block r p) + 5) ps behind)
