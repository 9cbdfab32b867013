use Rattle.std.proofs.Common.{◌≡◌, ◌+◌, ◌*◌, ◌≤◌, get_or, length, arith, rules}
use Rattle.std.proofs.lemmas.List.{take_rest}
use Rattle.texts.proofs.EscapedLemmas.{no_high, no_low, no_x, unescaped-escape, unescaped-no_escape, whole_escape}
use Rattle.texts.proofs.escaped.escape_at_front.Goals as goal

pub returns-in_default-clause-first : goal.returns-in_default-clause-first
returns-in_default-clause-first c =
    unescaped-no_escape c.args.text.now c.requires.some c.requires.begins (λ long. no_x (get_or c.args.text.now 1 0) (get_or c.args.text.now 2 0) (get_or c.args.text.now 3 0) (λ is. grind arith))

pub returns-in_err-high-clause-first : goal.returns-in_err-high-clause-first
returns-in_err-high-clause-first c =
    rw c.from_residual.ensures (unescaped-no_escape c.args.text.now c.requires.some c.requires.begins (λ long. no_high (get_or c.args.text.now 1 0) (get_or c.args.text.now 2 0) (get_or c.args.text.now 3 0) c.in_err-high.ensures.value))

pub returns-in_err-low-clause-first : goal.returns-in_err-low-clause-first
returns-in_err-low-clause-first c =
    rw c.from_residual-in_err-low.ensures (unescaped-no_escape c.args.text.now c.requires.some c.requires.begins (λ long. no_low (get_or c.args.text.now 1 0) (get_or c.args.text.now 2 0) (get_or c.args.text.now 3 0) c.in_err-low.ensures.value))

pub returns-clause-first : goal.returns-clause-first
returns-clause-first c =
    let text = c.args.text.now in
    let x : get_or text 1 0 ≡ 120 = search rules in
    let long : 4 ≤ length text = omega arith in
    rw (take_rest text 4)
    (unescaped-escape text (16 * c.in_ok-high.high + c.in_ok-low.low) long c.requires.begins
    (whole_escape (get_or text 1 0) (get_or text 2 0) (get_or text 3 0) c.in_ok-high.high c.in_ok-low.low x c.in_ok-high.ensures.value c.in_ok-low.ensures.value))
