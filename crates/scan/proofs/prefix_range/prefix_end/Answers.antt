use Rattle.std.proofs.Common.{◌≡◌, ◌+◌, ◌++◌, ◌∷◌, [], refl, arith}
use Rattle.table.specs.TableBytes.{AreBytes}
use Rattle.scan.proofs.PrefixKeys.{filled-more, last_fits, no_end, some_end}
use Rattle.scan.proofs.prefix_range.prefix_end.Goals as goal

pub returns-then-last-lt255-clause-keys : goal.returns-then-last-lt255-clause-keys
returns-then-last-lt255-clause-keys c =
    let rest = c.in-Some.rest.now in
    let last = c.in-Some.last.now in
    let made : c.push.new.self.items ≡ rest ++ (last + 1) ∷ [] = rw (c.in_ok-push.ensures.items, c.in_ok-extend_from_slice.ensures.items, c.in_ok-end.ensures.items) refl in
    some_end c.args.prefix.now c.loop-last.front.now rest c.push.new.self.items last c.in-Some.ensures.cases.0 c.loop-last.invariant made

pub loop-last-preserved : goal.loop-last-preserved
loop-last-preserved c =
    let rest = c.in-Some.rest.now in
    let last = c.in-Some.last.now in
    let fits : AreBytes c.args.prefix.now = λ i. let byte = c.type_inv.prefix i in omega arith in
    let byte = last_fits c.args.prefix.now c.loop-last.front.now rest last c.in-Some.ensures.cases.0 c.loop-last.invariant fits in
    filled-more c.args.prefix.now c.loop-last.front.now rest last c.in-Some.ensures.cases.0 (omega arith) c.loop-last.invariant

pub returns-clause-keys : goal.returns-clause-keys
returns-clause-keys c = no_end c.args.prefix.now c.loop-last.front.now c.in_default.ensures.cases c.loop-last.invariant
