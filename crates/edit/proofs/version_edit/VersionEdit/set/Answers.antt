use Rattle.std.proofs.lemmas.Result.{err_from_is_err_and}
use Rattle.edit.proofs.Memory.{FailsOrMemory-memory}
use Rattle.edit.proofs.version_edit.VersionEdit.set.Goals as goal

pub returns-in_err-of-in-Pointer-clause-memory : goal.returns-in_err-of-in-Pointer-clause-memory
returns-in_err-of-in-Pointer-clause-memory c =
    let p = err_from_is_err_and c.from_residual-in_err-of-in-Pointer.result c.from_residual-in_err-of-in-Pointer.ensures.1 in
    rw (p.1, p.2) (FailsOrMemory-memory c.in_err-of-in-Pointer.field-0.0 c.in-Pointer.pointer.key.bytes.now c.in_err-of-in-Pointer.ensures)

pub returns-in_err-of-in-Added-clause-memory : goal.returns-in_err-of-in-Added-clause-memory
returns-in_err-of-in-Added-clause-memory c =
    let p = err_from_is_err_and c.from_residual-in_err-of-in-Added.result c.from_residual-in_err-of-in-Added.ensures.1 in
    rw (p.1, p.2) (FailsOrMemory-memory c.in_err-of-in-Added.field-0.0 c.in-Added.file.smallest.bytes.now c.in_err-of-in-Added.ensures)

pub returns-in_err-of-in-Added-2-clause-memory : goal.returns-in_err-of-in-Added-2-clause-memory
returns-in_err-of-in-Added-2-clause-memory c =
    let p = err_from_is_err_and c.from_residual-in_err-of-in-Added-2.result c.from_residual-in_err-of-in-Added-2.ensures.1 in
    rw (p.1, p.2) (FailsOrMemory-memory c.in_err-of-in-Added-2.field-0.0 c.in-Added.file.largest.bytes.now c.in_err-of-in-Added-2.ensures)
