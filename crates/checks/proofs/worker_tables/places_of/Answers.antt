use Rattle.std.proofs.Common.{ℕ, Option, None, Result, Ok, Err, length, refl}
use Rattle.std.specs.Global.{Vec}
use Rattle.std.proofs.lemmas.Result.{err_from_is_err_and}
use Rattle.board.proofs.RunResults.{run_zipped}
use Rattle.ikey.specs.fault.Fault.{Fault}
use Rattle.reads.specs.Tables.{NumberedContents}
use Rattle.checks.specs.TablePlaces.{IsToldPlace}
use Rattle.checks.proofs.FallingRanges.{only_memory_left}
use Rattle.checks.proofs.worker_tables.places_of.Goals as goal

pub returns-in_err-places-clause-memory : goal.returns-in_err-places-clause-memory
returns-in_err-places-clause-memory g c =
    let p = err_from_is_err_and c.from_residual.result c.from_residual.ensures.1 in
    let e = c.in_err-places.ensures in
    let why = c.in_err-places.field-0.0 in
    rw (p.1, p.2) (only_memory_left _ (length c.args.numbers.now) (Err why) why refl e.refused e.workers)

pub returns-clause-places : goal.returns-clause-places
returns-clause-places g c =
    let numbers = c.args.numbers.now in
    let answer : Result (Vec (ℕ × Option NumberedContents)) Fault = Ok c.in_ok-places.places in
    run_zipped (IsToldPlace g.C.Comparator.cmp (g.D.TableReader.tells c.args.reader.now)) (λ job. None) numbers (length numbers) answer refl c.in_ok-places.ensures.ok
