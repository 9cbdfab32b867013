use Rattle.std.proofs.Common.{◌≡◌, ◌<◌, get_or, refl, sym, ◌∙◌, arith}
use Rattle.coding.proofs.Steps.{read_first, read_past, read_last_none, read_last_some, read_next, read_end, last_fits}
use Rattle.coding.proofs.varint.read_groups.Goals as goal

pub loop-i-init : goal.loop-i-init
loop-i-init c = record {
  few = omega arith;
  fits = omega arith;
  is = read_first c.args.first c.args.rest.now (omega arith) (omega arith);
}

pub returns-then-byte-gt1 : goal.returns-then-byte-gt1
returns-then-byte-gt1 c =
    sym (read_past c.loop-i.i c.loop-i.number c.args.rest.now (omega arith) c.loop-i-test.true c.if-byte-gt1.true) ∙ c.loop-i.invariant.is

pub returns-then-byte-eq0 : goal.returns-then-byte-eq0
returns-then-byte-eq0 c =
    sym (read_last_none c.loop-i.i c.loop-i.number c.args.rest.now c.loop-i.invariant.few c.loop-i-test.true c.if-byte-eq0.true) ∙ c.loop-i.invariant.is

pub overflow_add-result : goal.overflow_add-result
overflow_add-result c =
    let b = get_or c.args.rest.now c.loop-i.i 0 in
    let full : c.loop-i.i ≡ 8 → b < 2 = λ e. omega arith in
    let shift = last_fits c.loop-i.i c.loop-i.number b c.loop-i.invariant.few c.loop-i.invariant.fits c.if-byte-lt128.true full in
    omega (arith, shift.0, shift.1)

pub returns-then-byte-lt128 : goal.returns-then-byte-lt128
returns-then-byte-lt128 c =
    let b = get_or c.args.rest.now c.loop-i.i 0 in
    let full : c.loop-i.i ≡ 8 → b < 2 = λ e. omega arith in
    sym (read_last_some c.loop-i.i c.loop-i.number b c.args.rest.now c.loop-i.invariant.few c.loop-i.invariant.fits c.loop-i-test.true refl c.if-byte-lt128.true full (omega arith)) ∙ c.loop-i.invariant.is

pub overflow_add-number : goal.overflow_add-number
overflow_add-number c =
    let b = get_or c.args.rest.now c.loop-i.i 0 in
    let next = read_next c.loop-i.i c.loop-i.number b c.args.rest.now (omega arith) c.loop-i.invariant.fits c.loop-i-test.true refl c.if-byte-lt128.false (omega (arith, c.type_inv.rest c.loop-i.i)) in
    omega (arith, next.fits)

pub loop-i-preserved : goal.loop-i-preserved
loop-i-preserved c =
    let b = get_or c.args.rest.now c.loop-i.i 0 in
    let next = read_next c.loop-i.i c.loop-i.number b c.args.rest.now (omega arith) c.loop-i.invariant.fits c.loop-i-test.true refl c.if-byte-lt128.false (omega (arith, c.type_inv.rest c.loop-i.i)) in
    record {
      few = omega arith;
      fits = next.below;
      is = next.is ∙ c.loop-i.invariant.is;
    }

pub returns : goal.returns
returns c = sym (read_end c.loop-i.i c.loop-i.number c.args.rest.now (omega arith)) ∙ c.loop-i.invariant.is
