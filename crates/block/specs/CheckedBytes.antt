-- A place in bytes that may be a block.
use Rattle.std.specs.Prelude.{ℕ, List}
use Rattle.block.specs.EncodedEntry.{Entry}

-- the bytes, the entries in them up to the first bytes that are no entry, and those still to come
pub record BlockChecking : Type 0 where
  pub bytes : List ℕ
  pub all : List Entry
  pub ahead : List Entry
