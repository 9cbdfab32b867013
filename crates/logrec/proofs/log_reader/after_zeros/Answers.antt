use Rattle.std.proofs.Common.{refl}
use Rattle.logrec.proofs.Logs.{behind_refused, behind_found}
use Rattle.logrec.proofs.log_reader.after_zeros.Goals as goal

pub returns-then-not-starts_with : goal.returns-then-not-starts_with
returns-then-not-starts_with c =
    rw c.of.ensures (behind_refused c.args.offset c.zeros_len-zeros.result c.args.bytes.now _ c.starts_with.result refl c.zeros_len-zeros.ensures.len c.starts_with.ensures.value c.if-not-starts_with.true)

pub returns : goal.returns
returns c = behind_found c.args.offset c.zeros_len-zeros.result c.args.bytes.now _ c.starts_with.result refl c.zeros_len-zeros.ensures.len c.starts_with.ensures.value c.if-not-starts_with.false
