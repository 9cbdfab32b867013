use Rattle.std.proofs.Common.{◌≡◌, ◌∙◌}
use Rattle.std.proofs.lemmas.Option.{same_Some}
use Rattle.folder.specs.Names.{six_digits}
use Rattle.folder.proofs.NameLemmas.{digits_read, digits_text}
use Rattle.install.proofs.file_kind.FileKind.number_between.Goals as goal

pub returns-in_err-ok : goal.returns-in_err-ok
returns-in_err-ok c n small is =
    let six : c.in_ok-digits.digits.now ≡ six_digits n = same_Some _ _ (c.in_ok-digits.ensures n is) in
    absurd (digits_text _ _ n c.in_ok-digits.digits.now c.from_utf8.result small six c.from_utf8.ensures.cases c.in_err-ok.ensures.value)

pub returns : goal.returns
returns c n small is =
    let six : c.in_ok-digits.digits.now ≡ six_digits n = same_Some _ _ (c.in_ok-digits.ensures n is) in
    c.ok-2.ensures.value ∙ digits_read _ _ n c.in_ok-digits.digits.now c.from_utf8.result c.in_ok-ok.field-0 c.parse.result small six c.from_utf8.ensures.cases c.in_ok-ok.ensures.value c.parse.ensures.value.0
