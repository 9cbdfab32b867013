use Rattle.std.proofs.Common.{◌++◌, refl, ap, ◌∙◌, arith}
use Rattle.std.proofs.Common.{List, ℕ}
use Rattle.coding.proofs.Steps.{written_none, written_more, written_all}
use Rattle.coding.proofs.varint.push_groups.Goals as goal

pub loop-rest-init : goal.loop-rest-init
loop-rest-init c = written_none c.args.number _ refl (omega arith)

pub loop-rest-preserved : goal.loop-rest-preserved
loop-rest-preserved c = written_more c.args.number c.loop-rest.last c.loop-rest.rest c.loop-rest.buffer c.loop-rest.invariant c.loop-rest-test.true

pub returns-clause-ok : goal.returns-clause-ok
returns-clause-ok c =
    c.in_ok-extend_from_slice.ensures.items
    ∙ ap (λ (text : List ℕ). c.args.out.now.items ++ text) (written_all c.args.number c.loop-rest.last c.loop-rest.rest c.loop-rest.buffer c.loop-rest.invariant c.loop-rest-test.false)
