-- The entries of a table, from what its bytes hold.
use Rattle.std.proofs.Common.{◌≡◌, ℕ, List, Result, Ok, Err}
use Rattle.table.specs.Answers.{◌>>=◌}
use Rattle.table.specs.fault.Fault.{Fault}
use Rattle.table.specs.TableContents.{Contents, DataBlock, contents_of, entries_of}

pub from_contents : (b : Result (List DataBlock) Fault) (bytes : List ℕ) (t : Contents) → (b >>= λ blocks. Ok (contents_of bytes blocks)) ≡ Ok t → (b >>= λ blocks. Ok (entries_of blocks)) ≡ Ok t.entries
from_contents (Ok blocks) bytes t h = cc
from_contents (Err e) bytes t h = absurd cc
