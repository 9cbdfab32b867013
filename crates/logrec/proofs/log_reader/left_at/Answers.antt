use Rattle.std.proofs.Common.{true, Bool, length, Result, Ok, ap, ◌∙◌}
use Rattle.std.proofs.lemmas.Result.{err_from_is_err_and}
use Rattle.coding.specs.declared.fault.Fault.{Fault}
use Rattle.logrec.specs.CodeFragment.{fragment_view}
use Rattle.logrec.specs.LogReader.{left_at}
use Rattle.logrec.proofs.Pieces.{piece_shorter}
use Rattle.logrec.proofs.Loops.{reads_refused, reads_misplaced, reads_on, reads_end}
use Rattle.logrec.proofs.log_reader.left_at.Goals as goal

abbrev answered : Bool → Result Bool Fault
answered b = Ok b

pub returns-in_err-fragment : goal.returns-in_err-fragment
returns-in_err-fragment c =
    let p = err_from_is_err_and c.from_residual-in_err-fragment.result c.from_residual-in_err-fragment.ensures.1 in
    rw (p.1, p.2) (reads_refused (left_at (length c.args.bytes.now) true c.args.room c.args.bytes.now) c.loop-record.record.items c.loop-record.begins c.loop-record.room c.loop-record.rest.now c.in_err-fragment.field-0.0 c.loop-record.invariant c.in_err-fragment.ensures)

pub returns-in_err-ends : goal.returns-in_err-ends
returns-in_err-ends c =
    let p = err_from_is_err_and c.from_residual-in_err-ends.result c.from_residual-in_err-ends.ensures.1 in
    rw (p.1, p.2) (reads_misplaced (left_at (length c.args.bytes.now) true c.args.room c.args.bytes.now) c.loop-record.record.items c.loop-record.begins c.loop-record.room c.loop-record.rest.now (fragment_view c.in_ok-fragment.fragment) c.in_err-ends.field-0.0 c.loop-record.invariant c.in_ok-fragment.ensures c.in_err-ends.ensures)

pub returns-then-ends : goal.returns-then-ends
returns-then-ends c =
    rw c.in_ok-extend_from_slice.ensures.items (reads_end (left_at (length c.args.bytes.now) true c.args.room c.args.bytes.now) c.loop-record.record.items c.loop-record.begins c.loop-record.room c.loop-record.rest.now (fragment_view c.in_ok-fragment.fragment) c.loop-record.invariant c.in_ok-fragment.ensures (c.in_ok-ends.ensures ∙ ap answered c.if-ends.true))

pub loop-record-smaller : goal.loop-record-smaller
loop-record-smaller c = piece_shorter c.loop-record.room c.loop-record.rest.now (fragment_view c.in_ok-fragment.fragment) c.in_ok-fragment.ensures

pub loop-record-preserved : goal.loop-record-preserved
loop-record-preserved c =
    rw c.in_ok-extend_from_slice.ensures.items (reads_on (left_at (length c.args.bytes.now) true c.args.room c.args.bytes.now) c.loop-record.record.items c.loop-record.begins c.loop-record.room c.loop-record.rest.now (fragment_view c.in_ok-fragment.fragment) c.loop-record.invariant c.in_ok-fragment.ensures (c.in_ok-ends.ensures ∙ ap answered c.if-ends.false))
