use Rattle.std.proofs.Common.{List, ℕ, ◌++◌, sym, ap, ◌∙◌}
use Rattle.coding.proofs.Varints.{varint_small}
use Rattle.coding.proofs.varint.push_varint.Goals as goal

pub returns-then-number-lt128-clause-ok : goal.returns-then-number-lt128-clause-ok
returns-then-number-lt128-clause-ok c =
    c.in_ok-push.ensures.items
    ∙ ap (λ (text : List ℕ). c.args.out.now.items ++ text) (sym (varint_small c.args.number c.if-number-lt128.true))
