use Rattle.std.proofs.Common.{refl}
use Rattle.board.proofs.Workings.{works_draw, works_none, none_all}
use Rattle.board.proofs.worker.serve.Goals as goal

pub serve_job-requires-clause-drawn : goal.serve_job-requires-clause-drawn
serve_job-requires-clause-drawn g c = record {
  works = works_draw _ _ _ _ _ _ c.loop-job.invariant c.in-Some.ensures.job refl refl;
  unspent = c.in-Some.ensures.unspent;
}

pub returns : goal.returns
returns g c =
    let n = c.in_default.ensures.none in record {
      works = works_none _ _ _ _ _ c.loop-job.invariant n refl refl;
      empty = none_all c.loop-job.shift.seat c.draw.new.seat _ n c.loop-job.invariant.board;
    }
