use Rattle.std.proofs.Common.{sym, ap, ◌∙◌}
use Rattle.texts.specs.Escaped.{unescaped}
use Rattle.texts.proofs.EscapedLemmas.{unescaped-own, unescaped-refused}
use Rattle.texts.proofs.escaped.first_byte.Goals as goal

pub returns-then-not-is_own-clause-first : goal.returns-then-not-is_own-clause-first
returns-then-not-is_own-clause-first c =
    ap unescaped c.in_ok-character.ensures.cases.0
    ∙ unescaped-refused c.in_ok-character.field-0-0.now c.in_ok-character.rest.now c.if-character-eq92.false (sym c.is_own.ensures ∙ c.if-not-is_own.true)

pub returns-clause-first : goal.returns-clause-first
returns-clause-first c =
    ap unescaped c.in_ok-character.ensures.cases.0
    ∙ unescaped-own c.in_ok-character.field-0-0.now c.in_ok-character.rest.now (sym c.is_own.ensures ∙ c.if-not-is_own.false)
