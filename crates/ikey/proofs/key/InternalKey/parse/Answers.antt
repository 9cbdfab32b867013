use Rattle.std.proofs.Common.{arith, rules}
use Rattle.ikey.proofs.Keys.{tag_spelled}
use Rattle.ikey.proofs.key.InternalKey.parse.Goals as goal

pub invariant_of-result : goal.invariant_of-result
invariant_of-result c =
    record {
      lawful = record {
        tagged = search rules;
        spelled = tag_spelled c.args.bytes.now (search rules) (λ i. omega (arith, c.type_inv.bytes i));
        typed = search rules;
        fits = search rules;
      };
    }
