use Rattle.std.proofs.Common.{◌≡◌, ◌<◌, ◌^◌, Option, Some, None, ap, refl, sym, ◌∙◌, arith}
use Rattle.std.specs.Option.{option_map, option_and_then}
use Rattle.block.specs.EncodedEntry.{Entry}
use Rattle.table.proofs.Binds.{done, ok_is}
use Rattle.table.specs.Key.{internal_key, kind_of}
use Rattle.reads.specs.kind.Kind.TheVariants.{Put}
use Rattle.table.proofs.Keys.{kind_of-internal_key}
use Rattle.reads.specs.Gets.{get_of, value_in}
use Rattle.reads.specs.Visible.{visible_of}
use Rattle.reads.proofs.Got.{get_by, get_of_long, visible_value}
use Rattle.folder.proofs.ReportLemmas.{reports_handed}
use Rattle.scan.proofs.Giving.{answers, handed}
use Rattle.scan.proofs.folder_get.get_unverified.Goals as goal

seen_value : (o : Option Entry) → option_and_then visible_value (option_map visible_of o) ≡ option_and_then value_in o
seen_value None = refl
seen_value (Some e) = refl

pub returns-then-key-gt-MAX_USER_KEY-clause-lawful : goal.returns-then-key-gt-MAX_USER_KEY-clause-lawful
returns-then-key-gt-MAX_USER_KEY-clause-lawful g c tables held lawful =
    ap done (sym (get_of_long g.C.Comparator.cmp c.args.version.now tables c.args.key.now c.args.at (omega arith) lawful))

pub newest_in_version-requires : goal.newest_in_version-requires
newest_in_version-requires g c =
    let fits : c.min.result < 2 ^ 56 = omega arith in
    let made : c.as_key.result.bytes.now ≡ internal_key c.args.key.now c.min.result Put = c.as_key.ensures ∙ sym (ok_is _ _ c.in_ok-target.ensures) in
    ap kind_of made ∙ kind_of-internal_key c.args.key.now c.min.result Put fits

pub returns-in_err-found-clause-lawful : goal.returns-in_err-found-clause-lawful
returns-in_err-found-clause-lawful g c tables held lawful =
    let failed = g.F.Folder.failed in
    let r = c.from_residual-in_err-found.result in
    answers (option_map (λ value. value.items)) (failed c.args.folder.now) (failed c.newest_in_version.new.folder) r (get_of c.args.version.now tables c.args.key.now c.args.at)
    (reports_handed r c.in_err-found.was c.newest_in_version.ensures.device c.from_residual-in_err-found.ensures.1).device
    (handed r c.in_err-found.field-0.0 _ c.from_residual-in_err-found.ensures.1 (c.in_err-found.ensures.given tables held lawful))

pub returns-clause-lawful : goal.returns-clause-lawful
returns-clause-lawful g c tables held lawful =
    let v = c.args.version.now in
    let key = c.args.key.now in
    let made : c.as_key.result.bytes.now ≡ internal_key key c.min.result Put = c.as_key.ensures ∙ sym (ok_is _ _ c.in_ok-target.ensures) in
    let got = get_by g.C.Comparator.cmp v tables key c.args.at c.as_key.result.bytes.now c.min.result (option_map visible_of c.in_ok-found.found) lawful (omega arith) made (c.in_ok-found.ensures.given tables held lawful) in
    ap done (c.value_of.ensures ∙ sym (seen_value c.in_ok-found.found) ∙ sym got)
