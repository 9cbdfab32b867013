-- The index key of a data block, by the blocks from it on.
use Rattle.std.specs.Prelude.{ℕ, List, [], ◌∷◌}
use Rattle.block.specs.EncodedEntry.{Entry}
use Rattle.table.specs.Table.{IndexKeys, index_key}

-- the index key of the first of these data blocks
abbrev pub place_key : IndexKeys → List (List Entry) → List ℕ
place_key keys [] = []
place_key keys (p ∷ ps) = index_key keys p ps
