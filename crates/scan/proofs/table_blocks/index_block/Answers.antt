use Rattle.std.proofs.Common.{◌≡◌, ◌-◌, List, ℕ, Ok, Some, length, take, drop, ap, sym, subst, ◌∙◌, arith}
use Rattle.folder.proofs.ReportLemmas.{reports_after}
use Rattle.table.specs.IndexReading.{block_in, stored_at}
use Rattle.scan.specs.SearchAnswers.{index_handle}
use Rattle.scan.specs.FolderTables.{TellsJust}
use Rattle.scan.proofs.Giving.{gives_from}
use Rattle.scan.proofs.Others.{index_handle_other, never_device, other_handed}
use Rattle.scan.proofs.Parts.{file_later, footer_is, index_there, not_refused, value_is}
use Rattle.scan.proofs.table_blocks.index_block.Goals as goal

pub returns-in_err-handle-clause-given : goal.returns-in_err-handle-clause-given
returns-in_err-handle-clause-given g c bytes names file read =
    let there = index_there bytes names read in
    let size = c.args.file.now.size in
    let start : size - 48 ≡ length bytes - 48 = ap (λ (n : ℕ). n - 48) file.1 in
    let name = subst (λ (n : List ℕ). TellsJust (g.F.Folder.tells c.args.folder.now) n (Some bytes)) (sym c.as_str.ensures.value) file.0 in
    let part = c.in_ok-footer.ensures.given bytes name (omega (arith, file.1, there.long)) in
    let footer = footer_is bytes c.in_ok-footer.footer.items there.long (part ∙ ap (λ (n : ℕ). take 48 (drop n bytes)) start) in
    let answer : index_handle size c.deref.result.now ≡ Ok there.handle =
    ap (λ (n : ℕ). index_handle n c.deref.result.now) file.1 ∙ ap (index_handle (length bytes)) (c.deref.ensures.value ∙ footer) ∙ there.read in
    absurd (not_refused (index_handle size c.deref.result.now) c.in_err-handle.field-0.0 there.handle c.in_err-handle.ensures answer)

pub returns-clause-given : goal.returns-clause-given
returns-clause-given g c bytes names file read =
    let there = index_there bytes names read in
    let size = c.args.file.now.size in
    let start : size - 48 ≡ length bytes - 48 = ap (λ (n : ℕ). n - 48) file.1 in
    let name = subst (λ (n : List ℕ). TellsJust (g.F.Folder.tells c.args.folder.now) n (Some bytes)) (sym c.as_str.ensures.value) file.0 in
    let part = c.in_ok-footer.ensures.given bytes name (omega (arith, file.1, there.long)) in
    let footer = footer_is bytes c.in_ok-footer.footer.items there.long (part ∙ ap (λ (n : ℕ). take 48 (drop n bytes)) start) in
    let answer : index_handle size c.deref.result.now ≡ Ok there.handle =
    ap (λ (n : ℕ). index_handle n c.deref.result.now) file.1 ∙ ap (index_handle (length bytes)) (c.deref.ensures.value ∙ footer) ∙ there.read in
    let same = value_is (index_handle size c.deref.result.now) c.in_ok-handle.handle there.handle c.in_ok-handle.ensures answer in
    gives_from c.stored_block.result (λ part. part.items ≡ there.stored) (λ part. block_in part.items ≡ Ok names) (λ stored is. ap block_in is ∙ there.block)
    (c.stored_block.ensures.given bytes there.stored (file_later _ _ c.args.file.now bytes c.part.ensures.reads.same file) (ap (stored_at bytes) same ∙ there.place))

pub returns-in_err-handle-clause-device : goal.returns-in_err-handle-clause-device
returns-in_err-handle-clause-device g c =
    let failed = g.F.Folder.failed in
    let r = c.from_residual-in_err-handle.result in
    let e = c.in_err-handle.field-0.0 in
    reports_after r c.in_ok-footer.was c.part.ensures.device
    (never_device (failed c.args.folder.now) (failed c.part.new.folder) r (other_handed r e c.from_residual-in_err-handle.ensures.1 (index_handle_other c.args.file.now.size c.deref.result.now e (sym c.in_err-handle.ensures))))
