use Rattle.std.proofs.Common.{◌∙◌}
use Rattle.folder.proofs.names.number_between.Goals as goal
use Rattle.folder.proofs.NameLemmas.{no_text, read_again}

pub returns-in_err-ok : goal.returns-in_err-ok
returns-in_err-ok c n small is =
    absurd (no_text _ _ n c.args.bytes.now c.in_ok-strip_prefix.field-0.now c.in_ok-digits.digits.now c.from_utf8.result small is c.in_ok-strip_prefix.ensures.cases.1 c.in_ok-digits.ensures.cases.1 c.from_utf8.ensures.cases c.in_err-ok.ensures.value)

pub returns : goal.returns
returns c n small is =
    c.ok-2.ensures.value ∙ read_again _ _ n c.args.bytes.now c.in_ok-strip_prefix.field-0.now c.in_ok-digits.digits.now c.from_utf8.result c.in_ok-ok.field-0 c.parse.result small is c.in_ok-strip_prefix.ensures.cases.1 c.in_ok-digits.ensures.cases.1 c.from_utf8.ensures.cases c.in_ok-ok.ensures.value c.parse.ensures.value.0
