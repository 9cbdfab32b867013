use Rattle.std.proofs.Common.{Some, subst, arith}
use Rattle.board.specs.WorkerResult.{IsLeastFailed}
use Rattle.board.proofs.WorkerResults.{least_left, least_right}
use Rattle.board.proofs.worker.least_of.Goals as goal

pub returns-then-job-next : goal.returns-then-job-next
returns-then-job-next c refusal xs ys h k =
    let mine : IsLeastFailed refusal xs (Some (c.in-Some.job, c.in-Some.fault)) = subst (IsLeastFailed refusal xs) c.in-Some.is h in
    let theirs : IsLeastFailed refusal ys (Some (c.in-Some-other.next, c.in-Some-other.reason)) = subst (IsLeastFailed refusal ys) c.in-Some-other.is k in
    least_left refusal xs ys (c.in-Some.job, c.in-Some.fault) mine (λ x any. let l = theirs.1 x any in let t = c.if-job-next.true in omega arith)

pub returns : goal.returns
returns c refusal xs ys h k =
    let mine : IsLeastFailed refusal xs (Some (c.in-Some.job, c.in-Some.fault)) = subst (IsLeastFailed refusal xs) c.in-Some.is h in
    let theirs : IsLeastFailed refusal ys (Some (c.in-Some-other.next, c.in-Some-other.reason)) = subst (IsLeastFailed refusal ys) c.in-Some-other.is k in
    least_right refusal xs ys (c.in-Some-other.next, c.in-Some-other.reason) theirs (λ x any. let l = mine.1 x any in let t = c.if-job-next.false in omega arith)
