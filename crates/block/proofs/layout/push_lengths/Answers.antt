use Rattle.std.proofs.Common.{◌∷◌, [], List, ℕ, ◌++◌, sym, ap, ◌∙◌}
use Rattle.coding.specs.Varint.{varint}
use Rattle.coding.proofs.Varints.{varint_small}
use Rattle.block.proofs.layout.push_lengths.Goals as goal

pub returns-then-value-lt128-clause-ok : goal.returns-then-value-lt128-clause-ok
returns-then-value-lt128-clause-ok c =
    c.in_ok-extend_from_slice.ensures.items
    ∙ ap (λ (x : List ℕ). c.args.out.now.items ++ (x ++ (c.args.unshared ∷ c.args.value ∷ []))) (sym (varint_small c.args.shared c.if-shared-lt128.true))
    ∙ ap (λ (x : List ℕ). c.args.out.now.items ++ (varint c.args.shared ++ (x ++ (c.args.value ∷ [])))) (sym (varint_small c.args.unshared c.if-unshared-lt128.true))
    ∙ ap (λ (x : List ℕ). c.args.out.now.items ++ (varint c.args.shared ++ (varint c.args.unshared ++ x))) (sym (varint_small c.args.value c.if-value-lt128.true))
