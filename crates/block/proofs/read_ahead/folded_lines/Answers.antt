use Rattle.std.proofs.Common.{◌≡◌, ℕ, ◌+◌, ◌*◌, List, suc, refl, ap, ◌∙◌, bit_xor, slice_index, arith}
use Rattle.block.specs.FoldedLines.{folded_lines}
use Rattle.block.proofs.read_ahead.folded_lines.Goals as goal

next : (n : ℕ) (b : List ℕ) → bit_xor (folded_lines n b) (slice_index b (64 * n)) ≡ folded_lines (n + 1) b
unfolding folded_lines
next n b =
    let same : suc n ≡ n + 1 = omega arith in
    ap (λ k. folded_lines k b) same

pub loop-line-init : goal.loop-line-init
unfolding folded_lines
loop-line-init c = refl

pub loop-line-preserved : goal.loop-line-preserved
loop-line-preserved c =
    ap (λ x. bit_xor x (slice_index c.args.bytes.now (64 * c.loop-line.line))) c.loop-line.invariant ∙ next c.loop-line.line c.args.bytes.now
