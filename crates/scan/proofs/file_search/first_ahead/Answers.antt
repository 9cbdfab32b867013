use Rattle.std.proofs.Common.{ap, ◌∙◌}
use Rattle.folder.proofs.CountLemmas.{steady}
use Rattle.folder.proofs.ReportLemmas.{reads_then}
use Rattle.table.specs.IndexReading.{block_in}
use Rattle.scan.proofs.Giving.{handed}
use Rattle.scan.proofs.IndexAhead.{head_of, passed, reached}
use Rattle.scan.proofs.Parts.{file_later}
use Rattle.scan.proofs.file_search.first_ahead.Goals as goal

pub names-preserved : goal.names-preserved
names-preserved g c =
    let cmp = g.C.Comparator.cmp in
    let t = c.args.target.bytes.now in
    let failed = g.F.Folder.failed in
    record {
      ahead = λ bytes file named.
          let a = c.names.invariant.ahead bytes file named in
          let h = head_of cmp bytes c.value.result.now c.names.index a.named c.value.ensures in
          let block = ap block_in c.deref.ensures.value ∙ c.in_ok-stored.ensures.given bytes h.entries (file_later _ _ c.args.file.now bytes c.names.invariant.reads.same file) h.block in
          passed cmp bytes t c.value.result.now c.args.index.now c.names.index _ c.in_ok-first.first a h (c.in_ok-first.ensures.given h.entries block h.keys h.some) c.if-is_some.ensures c.in_ok-advance.ensures.ok;
      reads = reads_then c.names.invariant.reads c.data_block.ensures.reads;
      failures = steady (failed c.args.folder.now) (failed c.names.folder) (failed c.data_block.new.folder) c.in_ok-stored.stored c.data_block.result c.in_ok-stored.was c.names.invariant.failures c.data_block.ensures.device.later c.data_block.ensures.device.at_once;
    }

pub returns-in_err-stored-clause-given : goal.returns-in_err-stored-clause-given
returns-in_err-stored-clause-given g c bytes file named =
    let a = c.names.invariant.ahead bytes file named in
    let h = head_of g.C.Comparator.cmp bytes c.value.result.now c.names.index a.named c.value.ensures in
    handed c.from_residual.result c.in_err-stored.field-0.0 _ c.from_residual.ensures.1 (c.in_err-stored.ensures.given bytes h.entries (file_later _ _ c.args.file.now bytes c.names.invariant.reads.same file) h.block)

pub returns-in_err-first-clause-given : goal.returns-in_err-first-clause-given
returns-in_err-first-clause-given g c bytes file named =
    let a = c.names.invariant.ahead bytes file named in
    let h = head_of g.C.Comparator.cmp bytes c.value.result.now c.names.index a.named c.value.ensures in
    let block = ap block_in c.deref.ensures.value ∙ c.in_ok-stored.ensures.given bytes h.entries (file_later _ _ c.args.file.now bytes c.names.invariant.reads.same file) h.block in
    handed c.from_residual-in_err-first.result c.in_err-first.field-0.0 _ c.from_residual-in_err-first.ensures.1 (c.in_err-first.ensures.given h.entries block h.keys h.some)

pub returns-then-is_some-clause-given : goal.returns-then-is_some-clause-given
returns-then-is_some-clause-given g c bytes file named =
    let cmp = g.C.Comparator.cmp in
    let a = c.names.invariant.ahead bytes file named in
    let h = head_of cmp bytes c.value.result.now c.names.index a.named c.value.ensures in
    let block = ap block_in c.deref.ensures.value ∙ c.in_ok-stored.ensures.given bytes h.entries (file_later _ _ c.args.file.now bytes c.names.invariant.reads.same file) h.block in
    reached cmp bytes c.args.target.bytes.now c.value.result.now c.args.index.now c.names.index c.in_ok-first.first a h (c.in_ok-first.ensures.given h.entries block h.keys h.some) c.if-is_some.ensures
