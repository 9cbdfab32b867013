use Rattle.std.proofs.Common.{◌≡◌, List, [], ◌∷◌, ◌++◌, All, length, sym, subst, rules}
use Rattle.board.specs.Progress.{Layout, Progress}
use Rattle.board.specs.FinishedSeats.{all_done, all_failed, all_skipped}
use Rattle.board.specs.GatheredSeats.{Gathers}
use Rattle.board.proofs.Closings.{all_front, all_last, counts_exact, spent_exact, nothing_left, closes_all}
use Rattle.board.proofs.ResultPlaces.{one_popped}
use Rattle.board.proofs.board.Board.close.Goals as goal

pub loop-seat-init : goal.loop-seat-init
loop-seat-init c =
    let rest = c.pop.new.self.items in
    let first = c.in-Some.first in
    let Own = λ (p : Progress). p.board ≡ c.args.self in
    let own : All Own (rest ++ first ∷ []) = subst (All Own) c.in-Some.ensures.items c.requires.boards in record {
      left = all_front Own rest (first ∷ []) own;
      popped = (first ∷ [], c.in-Some.ensures.items, subst (λ (b : Layout). Gathers b c.of-gathered.result (first ∷ [])) (all_last Own rest first own) c.of-gathered.ensures);
    }

pub loop-seat-preserved : goal.loop-seat-preserved
loop-seat-preserved c =
    let i = c.loop-seat.invariant in
    let rest = c.pop-in-loop-seat.new.self.items in
    let seat = c.in-Some-pop.seat in
    let is = c.in-Some-pop.ensures.items in
    let Own = λ (p : Progress). p.board ≡ c.args.self in record {
      left = all_front Own rest (seat ∷ []) (subst (All Own) is i.left);
      popped = (seat ∷ i.popped.0, one_popped c.args.seats.items c.loop-seat.seats.items rest i.popped.0 seat i.popped.1 is, c.gather.ensures i.popped.0 i.popped.2);
    }

pub returns-clause-counts : goal.returns-clause-counts
returns-clause-counts c =
    let p = c.loop-seat.invariant.popped in
    let none : length c.loop-seat.seats.items ≡ 0 = search (rules, c.in_default-pop.ensures.cases.0) in
    let is = nothing_left c.args.seats.items c.loop-seat.seats.items p.0 p.1 none in
    subst (λ (ps : List Progress). (c.loop-seat.gathered.done ≡ length (all_done ps)) × (c.loop-seat.gathered.failed ≡ length (all_failed ps)) × (c.loop-seat.gathered.skipped ≡ length (all_skipped ps))) (sym is)
    (counts_exact _ _ _ p.2 c.last_fault.ensures.once c.last_fault.ensures.few)

pub returns-clause-spent : goal.returns-clause-spent
returns-clause-spent c =
    let p = c.loop-seat.invariant.popped in
    let none : length c.loop-seat.seats.items ≡ 0 = search (rules, c.in_default-pop.ensures.cases.0) in
    let is = nothing_left c.args.seats.items c.loop-seat.seats.items p.0 p.1 none in
    spent_exact c.args.self c.loop-seat.gathered c.args.seats.items (subst (Gathers c.args.self c.loop-seat.gathered) (sym is) p.2)

pub returns-clause-all : goal.returns-clause-all
returns-clause-all c long =
    let p = c.loop-seat.invariant.popped in
    let none : length c.loop-seat.seats.items ≡ 0 = search (rules, c.in_default-pop.ensures.cases.0) in
    let is = nothing_left c.args.seats.items c.loop-seat.seats.items p.0 p.1 none in
    let count : length c.args.seats.items ≡ c.args.self.seats = search (rules, long) in
    let e = c.last_fault.ensures in
    closes_all c.args.self c.loop-seat.gathered c.args.seats.items c.last_fault.result c.fault_at.result (subst (Gathers c.args.self c.loop-seat.gathered) (sym is) p.2) e.whole count e.few c.fault_at.ensures.word c.fault_at.ensures.some
