use Rattle.std.proofs.Common.{Some, inr}
use Rattle.table.specs.fault.FaultName.TheVariants.{Empty}
use Rattle.scan.proofs.Giving.{handed, refused}
use Rattle.scan.proofs.IndexAhead.{has_index}
use Rattle.scan.proofs.Parts.{just_later}
use Rattle.scan.proofs.file_search.newest_in_file.Goals as goal

pub returns-in_err-name-clause-given : goal.returns-in_err-name-clause-given
returns-in_err-name-clause-given g c table held read size = handed c.from_residual.result c.in_err-name.field-0.0 _ c.from_residual.ensures.1 (c.in_err-name.ensures.given table.bytes held)

pub returns-in_err-first-clause-given : goal.returns-in_err-first-clause-given
returns-in_err-first-clause-given g c table held read size =
    let h = has_index g.C.Comparator.cmp table g.met.C.Comparator.total read in
    let just = just_later _ _ _ (Some table.bytes) c.name_of.ensures.reads.same (c.in_ok-name.ensures.given table.bytes held) in
    handed c.from_residual-in_err-first.result c.in_err-first.field-0.0 _ c.from_residual-in_err-first.ensures.1 (c.in_err-first.ensures.given table.bytes h.names table.entries (just, size) h.read h.indexes)

pub returns-clause-given : goal.returns-clause-given
returns-clause-given g c table held read size =
    let h = has_index g.C.Comparator.cmp table g.met.C.Comparator.total read in
    let just = just_later _ _ _ (Some table.bytes) c.name_of.ensures.reads.same (c.in_ok-name.ensures.given table.bytes held) in
    c.of_user.ensures table.entries h.indexes.rising (c.in_ok-first.ensures.given table.bytes h.names table.entries (just, size) h.read h.indexes)

pub returns-in_err-name-clause-empty : goal.returns-in_err-name-clause-empty
returns-in_err-name-clause-empty g c bytes held size read = refused c.from_residual.result c.in_err-name.field-0.0 Empty c.from_residual.ensures.1 (inr (c.in_err-name.ensures.given bytes held))

pub returns-in_err-first-clause-empty : goal.returns-in_err-first-clause-empty
returns-in_err-first-clause-empty g c bytes held size read =
    let just = just_later _ _ _ (Some bytes) c.name_of.ensures.reads.same (c.in_ok-name.ensures.given bytes held) in
    refused c.from_residual-in_err-first.result c.in_err-first.field-0.0 Empty c.from_residual-in_err-first.ensures.1 (c.in_err-first.ensures.empty bytes (just, size) read)

pub returns-clause-empty : goal.returns-clause-empty
returns-clause-empty g c bytes held size read =
    let just = just_later _ _ _ (Some bytes) c.name_of.ensures.reads.same (c.in_ok-name.ensures.given bytes held) in
    absurd (c.in_ok-first.ensures.empty bytes (just, size) read)
