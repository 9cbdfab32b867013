use Rattle.std.proofs.Common.{◌≡◌, ◌+◌, ◌-◌, ◌*◌, ℕ, take, subst, ◌∙◌, arith}
use Rattle.coding.proofs.Beginnings.{take_fewer}
use Rattle.ikey.proofs.Words.{apart_at, alike_at, by_lengths}
use Rattle.ikey.proofs.bytewise.by_words.Goals as goal

pub returns-then-word-other : goal.returns-then-word-other
returns-then-word-other c =
    c.cmp.ensures
    ∙ apart_at (8 * c.loop-i.i) c.args.a.now c.args.b.now c.word_at-word.result c.word_at-other.result (omega arith) (omega arith) (λ i. omega (arith, c.type_inv.a i)) (λ i. omega (arith, c.type_inv.b i)) c.loop-i.invariant c.word_at-word.ensures c.word_at-other.ensures c.if-word-other.true

pub loop-i-preserved : goal.loop-i-preserved
loop-i-preserved c =
    let next : 8 * c.loop-i.i + 8 ≡ 8 * (c.loop-i.i + 1) = omega arith in
    subst (λ (n : ℕ). take n c.args.a.now ≡ take n c.args.b.now) next
    (alike_at (8 * c.loop-i.i) c.args.a.now c.args.b.now c.word_at-word.result c.word_at-other.result (omega arith) (omega arith) (λ i. omega (arith, c.type_inv.a i)) (λ i. omega (arith, c.type_inv.b i)) c.loop-i.invariant c.word_at-word.ensures c.word_at-other.ensures c.if-word-other.false)

pub returns-then-last-other : goal.returns-then-last-other
returns-then-last-other c =
    let place = c.min-shorter.result - 8 in
    let same : take place c.args.a.now ≡ take place c.args.b.now = take_fewer place (8 * c.loop-i.i) c.args.a.now c.args.b.now (omega arith) c.loop-i.invariant in
    c.cmp-then-last-other.ensures
    ∙ apart_at place c.args.a.now c.args.b.now c.word_at-last.result c.word_at-other-2.result (omega arith) (omega arith) (λ i. omega (arith, c.type_inv.a i)) (λ i. omega (arith, c.type_inv.b i)) same c.word_at-last.ensures c.word_at-other-2.ensures c.if-last-other.true

pub returns : goal.returns
returns c =
    let place = c.min-shorter.result - 8 in
    let same : take place c.args.a.now ≡ take place c.args.b.now = take_fewer place (8 * c.loop-i.i) c.args.a.now c.args.b.now (omega arith) c.loop-i.invariant in
    let all : place + 8 ≡ c.min-shorter.result = omega arith in
    c.cmp-2.ensures
    ∙ by_lengths c.min-shorter.result c.args.a.now c.args.b.now (omega arith)
    (subst (λ (n : ℕ). take n c.args.a.now ≡ take n c.args.b.now) all
    (alike_at place c.args.a.now c.args.b.now c.word_at-last.result c.word_at-other-2.result (omega arith) (omega arith) (λ i. omega (arith, c.type_inv.a i)) (λ i. omega (arith, c.type_inv.b i)) same c.word_at-last.ensures c.word_at-other-2.ensures c.if-last-other.false))
