use Rattle.std.proofs.Common.{◌≡◌, List, Err, map, subst}
use Rattle.ikey.specs.Answers.{UnlessMemory}
use Rattle.reads.specs.Lawful.{IsLawful}
use Rattle.reads.specs.Tables.{NumberedContents}
use Rattle.checks.specs.TableReadings.{tables_reading}
use Rattle.checks.specs.LawfulTables.{IsLawfulAnswer, IsLawfulTables}
use Rattle.checks.proofs.Lent.{lent_table}
use Rattle.checks.proofs.LawfulLemmas.{handed_on, not_checked, not_lawful, sound}
use Rattle.checks.proofs.version_check.lawful_tables.Goals as goal

pub returns-in_err-tables : goal.returns-in_err-tables
returns-in_err-tables g c =
    let cmp = g.C.Comparator.cmp in
    let loaded = map lent_table c.args.loaded.now in
    handed_on (λ v. v.items) c.from_residual.result c.in_err-tables.field-0.0 (λ r. tables_reading cmp loaded ≡ r) (IsLawfulTables cmp c.args.version.now loaded) c.from_residual.ensures.1
    c.in_err-tables.ensures (not_checked cmp c.args.version.now loaded c.in_err-tables.field-0.0)

pub returns-in_err-lawful : goal.returns-in_err-lawful
returns-in_err-lawful g c =
    let cmp = g.C.Comparator.cmp in
    let v = c.args.version.now in
    let loaded = map lent_table c.args.loaded.now in
    let e = c.in_err-lawful.field-0.0 in
    let tables = c.in_ok-tables.tables.items in
    let given = subst (λ (ts : List NumberedContents). UnlessMemory e (IsLawfulAnswer cmp v ts (Err e))) c.deref.ensures.value c.in_err-lawful.ensures in
    handed_on (λ v. v.items) c.from_residual-in_err-lawful.result e (IsLawfulAnswer cmp v tables) (IsLawfulTables cmp v loaded) c.from_residual-in_err-lawful.ensures.1
    given (not_lawful cmp v loaded tables e c.in_ok-tables.ensures)

pub returns : goal.returns
returns g c =
    let cmp = g.C.Comparator.cmp in
    let v = c.args.version.now in
    let tables = c.in_ok-tables.tables.items in
    sound cmp v (map lent_table c.args.loaded.now) tables c.in_ok-tables.ensures (subst (IsLawful cmp v) c.deref.ensures.value c.in_ok-lawful.ensures)
