use Rattle.std.proofs.Common.{◌≡◌, ◌+◌, ◌-◌, ◌*◌, nat_eq, take, ap, ◌∙◌, subst, ℕ, arith}
use Rattle.std.proofs.lemmas.List.Sums.{common_prefix_len-le}
use Rattle.coding.proofs.Beginnings.{take_fewer, apart_at, alike_at, all_alike}
use Rattle.coding.proofs.common_prefix.common_len.Goals as goal

pub returns-then-shorter-lt-WORD_LEN-clause-within :
    goal.returns-then-shorter-lt-WORD_LEN-clause-within
returns-then-shorter-lt-WORD_LEN-clause-within c =
    let le = common_prefix_len-le nat_eq c.args.a.now c.args.b.now in
    (omega (arith, le.0, c.common_bytes.ensures), omega (arith, le.1, c.common_bytes.ensures))

pub returns-then-difference-ne0-clause-value : goal.returns-then-difference-ne0-clause-value
returns-then-difference-ne0-clause-value c =
    ap (λ (n : ℕ). 8 * c.loop-i.i + n) c.same_bytes.ensures
    ∙ apart_at (8 * c.loop-i.i) c.args.a.now c.args.b.now c.word_at.result c.word_at-in-loop-i.result (omega arith) (omega arith) (λ i. omega (arith, c.type_inv.a i)) (λ i. omega (arith, c.type_inv.b i)) c.loop-i.invariant c.word_at.ensures c.word_at-in-loop-i.ensures c.if-difference-ne0.true

pub loop-i-preserved : goal.loop-i-preserved
loop-i-preserved c =
    let next : 8 * c.loop-i.i + 8 ≡ 8 * (c.loop-i.i + 1) = omega arith in
    subst (λ (n : ℕ). take n c.args.a.now ≡ take n c.args.b.now) next
    (alike_at (8 * c.loop-i.i) c.args.a.now c.args.b.now c.word_at.result c.word_at-in-loop-i.result (omega arith) (omega arith) (λ i. omega (arith, c.type_inv.a i)) (λ i. omega (arith, c.type_inv.b i)) c.loop-i.invariant c.word_at.ensures c.word_at-in-loop-i.ensures c.if-difference-ne0.false)

pub returns-then-difference-ne0-2-clause-value : goal.returns-then-difference-ne0-2-clause-value
returns-then-difference-ne0-2-clause-value c =
    let last = c.min-shorter.result - 8 in
    let same : take last c.args.a.now ≡ take last c.args.b.now = take_fewer last (8 * c.loop-i.i) c.args.a.now c.args.b.now (omega arith) c.loop-i.invariant in
    ap (λ (n : ℕ). last + n) c.same_bytes-then-difference-ne0-2.ensures
    ∙ apart_at last c.args.a.now c.args.b.now c.word_at-2.result c.word_at-3.result (omega arith) (omega arith) (λ i. omega (arith, c.type_inv.a i)) (λ i. omega (arith, c.type_inv.b i)) same c.word_at-2.ensures c.word_at-3.ensures c.if-difference-ne0-2.true

pub returns-clause-value : goal.returns-clause-value
returns-clause-value c =
    let last = c.min-shorter.result - 8 in
    let same : take last c.args.a.now ≡ take last c.args.b.now = take_fewer last (8 * c.loop-i.i) c.args.a.now c.args.b.now (omega arith) c.loop-i.invariant in
    let all : last + 8 ≡ c.min-shorter.result = omega arith in
    all_alike c.min-shorter.result c.args.a.now c.args.b.now (omega arith)
    (subst (λ (n : ℕ). take n c.args.a.now ≡ take n c.args.b.now) all
    (alike_at last c.args.a.now c.args.b.now c.word_at-2.result c.word_at-3.result (omega arith) (omega arith) (λ i. omega (arith, c.type_inv.a i)) (λ i. omega (arith, c.type_inv.b i)) same c.word_at-2.ensures c.word_at-3.ensures c.if-difference-ne0-2.false))
