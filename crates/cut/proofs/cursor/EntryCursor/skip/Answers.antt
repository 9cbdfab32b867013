use Rattle.std.proofs.Common.{◌≡◌, ◌+◌, ◌-◌, ◌<◌, ◌≤◌, ℕ, List, length, drop, sym, ap, subst, ◌∙◌, arith}
use Rattle.std.specs.Prelude.{slice_index_or}
use Rattle.keep.specs.Runs.{Run}
use Rattle.cut.proofs.Skips.{IsSkipping, same_at, skipping_next}
use Rattle.cut.proofs.cursor.EntryCursor.skip.Goals as goal

pub loop-passed-preserved : goal.loop-passed-preserved
loop-passed-preserved c =
    let runs : List Run = c.self.inside.runs.now in
    let passed : ℕ = c.loop-passed.passed in
    let left : ℕ = c.loop-passed.left in
    let tested : Run = c.index-runs-passed.result in
    let here : Run = c.index-runs-passed-in-loop-passed.result in
    let some : passed < length runs = omega (arith, c.loop-passed-test.true) in
    let tested_is : slice_index_or runs passed tested ≡ tested = sym c.index-runs-passed.is in
    let here_is : slice_index_or runs passed here ≡ here = sym c.index-runs-passed-in-loop-passed.is in
    let same : slice_index_or runs passed here ≡ tested = same_at runs passed here tested some ∙ tested_is in
    let tested_len : c.len.result ≡ length tested.kept = c.len.ensures.number in
    let here_len : c.len-in-loop-passed.result ≡ length here.kept = c.len-in-loop-passed.ensures.number in
    let number : length (slice_index_or runs passed here).kept ≡ c.len-in-loop-passed.result = ap (λ (r : Run). length r.kept) here_is ∙ sym here_len in
    let whole : length (slice_index_or runs passed here).kept ≤ left = omega (arith, tested_len, c.if-len-left.true, ap (λ (r : Run). length r.kept) same) in
    let next = skipping_next c.args.self.now c.args.count runs passed left here c.loop-passed.invariant.0 some whole in
    (subst (λ (n : ℕ). IsSkipping c.args.self.now c.args.count (drop (passed + 1) runs) (left - n)) number next, omega (arith, some))
