-- The parts of a block's bytes.
use Rattle.std.specs.Prelude.{◌≡◌, ℕ, ◌*◌, ◌<◌, ◌^◌, List, ◌++◌, length}
use Rattle.byteorder.specs.Endian.{little_bytes}

-- the first restart is this offset
abbrev pub BeginsWith : List ℕ → ℕ → Type 0
BeginsWith pending at = (others : List ℕ) × (pending ≡ little_bytes 4 at ++ others)

-- The bytes are the entries, then at least one restart, then the count of restarts.
pub record HasBlockParts (bytes area restarts : List ℕ) : Type 0 where
  pub count : ℕ
  pub some : 0 < count
  pub fits : count < 2 ^ 32
  pub len : length restarts ≡ 4 * count
  pub whole : bytes ≡ area ++ (restarts ++ little_bytes 4 count)
