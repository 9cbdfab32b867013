use Rattle.std.proofs.Common.{◌≤◌, ◌+◌, ℕ, refl, sym, ap, subst, arith, length}
use Rattle.board.specs.Progress.{DrawsJob, IsUnspent}
use Rattle.board.specs.Seats.{progress_of}
use Rattle.board.proofs.Turns.{may_claim, before_draw, after_pass, passes, draws_job, draws_none}
use Rattle.board.proofs.Counts.{counted_pass, counted_draw, open_new, still_seated, few_drawn}
use Rattle.board.proofs.board.Board.draw.Goals as goal

pub loop-seat-init : goal.loop-seat-init
loop-seat-init c =
    let b = before_draw _ _ _ _ _ _ _ _ c.seat.invariant.0 c.seat.view_is in
    record { seated = c.seat.invariant.0; counted = c.seat.invariant.1; so = b.0; more = b.1; before = b.2 }

pub claim-requires-clause-left : goal.claim-requires-clause-left
claim-requires-clause-left c = may_claim _ _ _ _ _ _ c.loop-seat.invariant.seated refl c.loop-seat-test.true

pub returns-in-Some-clause-job : goal.returns-in-Some-clause-job
returns-in-Some-clause-job c =
    let i = c.loop-seat.invariant in
    let e = c.in-Some.ensures in
    subst (λ (x : ℕ). DrawsJob c.args.seat.now x (progress_of c.claim.new.token.table_id c.loop-seat.seat-inside.number c.claim.new.token.me.0 c.loop-seat.seat-inside.trail.items)) (sym c.new.ensures)
    (draws_job _ _ _ _ _ _ _ _ _ _ _ _ i.seated refl c.loop-seat-test.true i.so i.more i.before e.token.0 e.number.0 e.number.1 e.new)

pub returns-in-Some-clause-unspent : goal.returns-in-Some-clause-unspent
returns-in-Some-clause-unspent c =
    let e = c.in-Some.ensures in
    subst (λ (x : ℕ). IsUnspent (progress_of c.claim.new.token.table_id c.loop-seat.seat-inside.number c.claim.new.token.me.0 c.loop-seat.seat-inside.trail.items) x) (sym c.new.ensures)
    (open_new _ _ _ _ _ c.loop-seat.invariant.counted c.claim.new.token.table_id c.loop-seat.seat-inside.number _ _ e.number.0 e.new.1)

pub invariant_of-seat-in-Some : goal.invariant_of-seat-in-Some
invariant_of-seat-in-Some c =
    let i = c.loop-seat.invariant in
    let e = c.in-Some.ensures in (
      still_seated _ _ _ _ _ _ i.seated e.token.1 (ap (λ v. v.members) e.number.0) (ap (λ v. v.jobs) e.number.0) (ap (λ v. v.seats) e.number.0) (ap (λ v. v.empty) e.number.0),
      counted_draw _ _ _ _ _ i.counted _ _ e.number.0 (omega (arith, e.new.0, i.seated.extent.0)) e.new.1,
    )

pub loop-seat-preserved : goal.loop-seat-preserved
loop-seat-preserved c =
    let i = c.loop-seat.invariant in
    let e = c.in_default.ensures in
    let more : length c.args.seat.now.empty ≤ c.loop-seat.seat-inside.passed + 1 = omega (arith, i.more) in record {
      seated = passes _ _ _ _ _ _ i.seated c.loop-seat-test.true e.none e.token.1;
      counted = counted_pass _ _ _ _ _ i.counted _ _ e.none;
      so = after_pass c.args.seat.now _ _ _ _ _ _ _ i.so e.token.0 e.none;
      more = more;
      before = i.before;
    }

pub returns-in-Some-clause-few : goal.returns-in-Some-clause-few
returns-in-Some-clause-few c = let i = invariant_of-seat-in-Some c in few_drawn _ _ _ _ _ i.1

pub returns-clause-few : goal.returns-clause-few
returns-clause-few c = few_drawn _ _ _ _ _ c.loop-seat.invariant.counted

pub returns-clause-none : goal.returns-clause-none
returns-clause-none c =
    let i = c.loop-seat.invariant in
    draws_none c.args.seat.now _ _ _ _ _ _ _ i.seated (omega (arith, c.loop-seat-test.false)) i.so i.more i.before
