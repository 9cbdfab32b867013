use Rattle.std.proofs.Common.{◌≡◌, List, [], inr, ap, sym, subst, ◌∙◌}
use Rattle.std.specs.Prelude.{slice_get}
use Rattle.std.specs.List.{AllByRecursion}
use Rattle.block.specs.EncodedEntry.{Entry}
use Rattle.folder.proofs.ReportLemmas.{reports_after, reports_then}
use Rattle.table.specs.IndexWalk.{NamesBlock, all_named}
use Rattle.table.specs.EntriesFrom.{entries_from}
use Rattle.table.specs.IndexReading.{block_in}
use Rattle.table.specs.fault.FaultName.TheVariants.{Empty}
use Rattle.table.proofs.Walks.{named_keys}
use Rattle.scan.proofs.Giving.{gives_from, handed, refused}
use Rattle.scan.proofs.IndexAhead.{names_ahead}
use Rattle.scan.proofs.Others.{never_device, other_handed}
use Rattle.scan.proofs.Parts.{file_later}
use Rattle.scan.proofs.file_search.first_in_table.Goals as goal

pub returns-in_err-stored-clause-given : goal.returns-in_err-stored-clause-given
returns-in_err-stored-clause-given g c bytes names entries file read indexes = handed c.from_residual.result c.in_err-stored.field-0.0 _ c.from_residual.ensures.1 (c.in_err-stored.ensures.given bytes names file read)

pub returns-in_err-index-clause-given : goal.returns-in_err-index-clause-given
returns-in_err-index-clause-given g c bytes names entries file read indexes =
    let block = ap block_in c.deref.ensures.value ∙ c.in_ok-stored.ensures.given bytes names file read in
    handed c.from_residual-in_err-index.result c.in_err-index.field-0.0 _ c.from_residual-in_err-index.ensures.1 (c.in_err-index.ensures.given names block (named_keys g.C.Comparator.cmp bytes names indexes.named) indexes.some)

pub returns-in_err-index-clause-device : goal.returns-in_err-index-clause-device
returns-in_err-index-clause-device g c =
    let failed = g.F.Folder.failed in
    let r = c.from_residual-in_err-index.result in
    reports_after r c.in_ok-stored.was c.index_block.ensures.device
    (never_device (failed c.args.folder.now) (failed c.index_block.new.folder) r (other_handed r c.in_err-index.field-0.0 c.from_residual-in_err-index.ensures.1 c.in_err-index.ensures.other))

pub returns-clause-given : goal.returns-clause-given
returns-clause-given g c bytes names entries file read indexes =
    let cmp = g.C.Comparator.cmp in
    let t = c.args.target.bytes.now in
    let block = ap block_in c.deref.ensures.value ∙ c.in_ok-stored.ensures.given bytes names file read in
    let index : List Entry = c.in_ok-index.index in
    let is : index ≡ entries_from cmp t names = c.in_ok-index.ensures.given names block (named_keys cmp bytes names indexes.named) indexes.some in
    let ahead = names_ahead cmp bytes t names entries g.met.C.Comparator.total indexes in
    gives_from c.first_ahead.result (λ found. found ≡ slice_get (entries_from cmp t (all_named bytes index)) 0) (λ found. found ≡ slice_get (entries_from cmp t entries) 0)
    (λ found same. same ∙ ap (λ (es : List Entry). slice_get (entries_from cmp t (all_named bytes es)) 0) is ∙ ap (λ (es : List Entry). slice_get es 0) ahead.reached)
    (c.first_ahead.ensures.given bytes (file_later _ _ c.args.file.now bytes c.index_block.ensures.reads.same file) (subst (AllByRecursion (NamesBlock cmp bytes)) (sym is) ahead.named))

pub returns-clause-device : goal.returns-clause-device
returns-clause-device g c = reports_then c.in_ok-stored.was c.index_block.ensures.device c.first_ahead.ensures.device

pub returns-in_err-stored-clause-empty : goal.returns-in_err-stored-clause-empty
returns-in_err-stored-clause-empty g c bytes file read = refused c.from_residual.result c.in_err-stored.field-0.0 Empty c.from_residual.ensures.1 (inr (c.in_err-stored.ensures.given bytes [] file read))

pub returns-in_err-index-clause-empty : goal.returns-in_err-index-clause-empty
returns-in_err-index-clause-empty g c bytes file read =
    let block = ap block_in c.deref.ensures.value ∙ c.in_ok-stored.ensures.given bytes [] file read in
    refused c.from_residual-in_err-index.result c.in_err-index.field-0.0 Empty c.from_residual-in_err-index.ensures.1 (c.in_err-index.ensures.empty block)

pub returns-clause-empty : goal.returns-clause-empty
returns-clause-empty g c bytes file read = absurd (c.in_ok-index.ensures.empty (ap block_in c.deref.ensures.value ∙ c.in_ok-stored.ensures.given bytes [] file read))
