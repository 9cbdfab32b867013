-- What is read ahead of a walk.
use Rattle.std.specs.Prelude.{ℕ, zero, suc, List, slice_index, bit_xor, ◌*◌}

-- the first bytes of the first n lines of 64 bytes, folded by exclusive or
unfoldable pub folded_lines : ℕ → List ℕ → ℕ
folded_lines zero b = 0
folded_lines (suc n) b = bit_xor (folded_lines n b) (slice_index b (64 * n))
