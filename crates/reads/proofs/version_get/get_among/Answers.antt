use Rattle.std.proofs.Common.{◌≡◌, ◌<◌, ◌^◌, ℕ, List, Option, ap, sym, ◌∙◌, arith}
use Rattle.std.specs.Option.{option_map, option_and_then}
use Rattle.ikey.proofs.Binds.{done, ok_is}
use Rattle.ikey.specs.Key.{internal_key, kind_of}
use Rattle.ikey.specs.declared.kind.Kind.TheVariants.{Put}
use Rattle.ikey.proofs.Keys.{kind_of-internal_key}
use Rattle.reads.specs.declared.found_entry.Found.{Found}
use Rattle.reads.specs.Gets.{get_of}
use Rattle.reads.specs.Visible.{visible_in}
use Rattle.reads.specs.Tables.{tables_test}
use Rattle.reads.proofs.Got.{visible_value, get_by, get_of_long, lawful_there, handed_on}
use Rattle.reads.proofs.version_get.get_among.Goals as goal

pub returns-in_err-tables_test-clause-lawful : goal.returns-in_err-tables_test-clause-lawful
returns-in_err-tables_test-clause-lawful g c lawful =
    let v = c.args.version.now in
    let tables = c.args.tables.now in
    handed_on _ c.from_residual.result c.in_err-tables_test.field-0.0 _ tt (tables_test tables v.files) (lawful_there g.C.Comparator.cmp v tables lawful) c.from_residual.ensures.1 c.in_err-tables_test.ensures

pub returns-then-key-gt-MAX_USER_KEY-clause-lawful : goal.returns-then-key-gt-MAX_USER_KEY-clause-lawful
returns-then-key-gt-MAX_USER_KEY-clause-lawful g c lawful = ap done (get_of_long g.C.Comparator.cmp c.args.version.now c.args.tables.now c.args.key.now c.args.at (omega arith) lawful)

pub newest_in_version-requires-clause-kind : goal.newest_in_version-requires-clause-kind
newest_in_version-requires-clause-kind g c =
    let fits : c.min.result < 2 ^ 56 = omega arith in
    let made : c.as_key.result.bytes.now ≡ internal_key c.args.key.now c.min.result Put = c.as_key.ensures ∙ sym (ok_is _ _ c.in_ok-target.ensures) in
    ap kind_of made ∙ kind_of-internal_key c.args.key.now c.min.result Put fits

-- what is got by the answer of the search
abbrev got_by : Option Found → Option (List ℕ)
got_by o = option_and_then visible_value (option_map visible_in o)

pub returns-in_default-clause-lawful : goal.returns-in_default-clause-lawful
returns-in_default-clause-lawful g c lawful =
    let made : c.as_key.result.bytes.now ≡ internal_key c.args.key.now c.min.result Put = c.as_key.ensures ∙ sym (ok_is _ _ c.in_ok-target.ensures) in
    let got : get_of c.args.version.now c.args.tables.now c.args.key.now c.args.at ≡ got_by c.in_ok-found.field-0 =
    get_by g.C.Comparator.cmp c.args.version.now c.args.tables.now c.args.key.now c.args.at c.as_key.result.bytes.now c.min.result (option_map visible_in c.in_ok-found.field-0) lawful (omega arith) made (c.in_ok-found.ensures.found lawful) in
    ap done (got ∙ ap got_by c.in_default.is)

pub returns-clause-lawful : goal.returns-clause-lawful
returns-clause-lawful g c lawful =
    let made : c.as_key.result.bytes.now ≡ internal_key c.args.key.now c.min.result Put = c.as_key.ensures ∙ sym (ok_is _ _ c.in_ok-target.ensures) in
    let got : get_of c.args.version.now c.args.tables.now c.args.key.now c.args.at ≡ got_by c.in_ok-found.field-0 =
    get_by g.C.Comparator.cmp c.args.version.now c.args.tables.now c.args.key.now c.args.at c.as_key.result.bytes.now c.min.result (option_map visible_in c.in_ok-found.field-0) lawful (omega arith) made (c.in_ok-found.ensures.found lawful) in
    ap done (got ∙ ap got_by c.in-Some.is ∙ sym c.value.ensures)
