-- How much of a key the key before it has.
use Rattle.std.specs.Prelude.{ℕ, nat_eq, List, [], ◌∷◌}
use Rattle.std.specs.List.{common_prefix_len}
use Rattle.reads.specs.EncodedEntry.{Entry}

-- of each entry, how many bytes its key shares with the key before it; `before` is the key before
-- the first
abbrev pub shared_lens : List ℕ → List Entry → List ℕ
shared_lens before [] = []
shared_lens before (e ∷ es) = common_prefix_len nat_eq before e.key ∷ shared_lens e.key es
