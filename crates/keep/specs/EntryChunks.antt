-- Kept entries in full chunks, and the last chunk after them.
use Rattle.std.specs.Prelude.{◌≡◌, ℕ, ◌≤◌, List, [], ◌∷◌, ◌++◌, length}
use Rattle.std.specs.List.{AllByRecursion}
use Rattle.ikey.specs.Key.{IsInternalKey}
use Rattle.reads.specs.EncodedEntry.{Entry}
use Rattle.keep.specs.declared.entry_chunks.TheConstants.{CHUNK_LEN}

-- the entries of the chunks, and after them those of the last one
abbrev pub all_kept : List (List Entry) → List Entry → List Entry
all_kept [] last = last
all_kept (p ∷ ps) last = p ++ all_kept ps last

-- the chunks have 4,096 entries each, the last one at most as many, and `number` is how many
-- entries all have; each key is an internal key
pub record AreInChunks (chunks : List (List Entry)) (behind : List Entry) (number : ℕ) : Type 0
  where
    pub full : AllByRecursion (λ p. length p ≡ CHUNK_LEN) chunks
    pub last : length behind ≤ CHUNK_LEN
    pub count : number ≡ length (all_kept chunks behind)
    pub internal : AllByRecursion (λ e. IsInternalKey e.key) (all_kept chunks behind)
