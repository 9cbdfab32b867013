use Rattle.std.proofs.Common.{◌≡◌, ◌++◌, ℕ, List, length, Result, Ok, Err, sym, ap, ◌∙◌, length-append, arith}
use Rattle.std.proofs.lemmas.Result.{err_from_is_err_and}
use Rattle.coding.specs.declared.fault.Fault.{Fault}
use Rattle.block.specs.EncodedEntry.{Entry}
use Rattle.block.specs.BlockFormat.{block}
use Rattle.block.specs.BuilderView.{BlockBuilding}
use Rattle.table.specs.declared.flushed_block.FlushedBlock.{FlushedBlock}
use Rattle.table.specs.Table.{closing_bytes}
use Rattle.table.specs.FlushedBlocks.{index_entries}
use Rattle.table.proofs.Indexes.{length-closing}
use Rattle.coding.proofs.Refusals.{unless_from}
use Rattle.table.proofs.Refused.{over_limit, in_limit}
use Rattle.table.proofs.flushed.Flushed.finish.Goals as goal

abbrev refused : Fault → Result (List ℕ) Fault
refused e = Err e

pub returns-in_err-index : goal.returns-in_err-index
returns-in_err-index c =
    let bytes : List ℕ = c.args.self.bytes.items in
    let index : List Entry = index_entries c.args.self.index.items in
    let same : length (block 1 (index_entries c.deref.result.now)) ≡ length (block 1 index) = ap (λ (x : List FlushedBlock). length (block 1 (index_entries x))) c.deref.ensures.value in
    let p = err_from_is_err_and c.from_residual.result c.from_residual.ensures.1 in
    rw (p.1, p.2)
    (unless_from c.in_err-index.field-0.0 _ _
    (λ h. over_limit (bytes ++ closing_bytes (length bytes) index) (let long = h.1 in omega (arith, same, length-append bytes (closing_bytes (length bytes) index), length-closing (length bytes) index)) ∙ ap refused (sym h.0))
    c.in_err-index.ensures.err)

pub returns-then-len-closing_len-gt-MAX_TABLE_LEN : goal.returns-then-len-closing_len-gt-MAX_TABLE_LEN
returns-then-len-closing_len-gt-MAX_TABLE_LEN c =
    let bytes : List ℕ = c.args.self.bytes.items in
    let index : List Entry = index_entries c.args.self.index.items in
    let same = ap (λ (b : BlockBuilding). length (block b.interval b.entries)) c.in_ok-index.ensures.ok ∙ ap (λ (x : List FlushedBlock). length (block 1 (index_entries x))) c.deref.ensures.value in
    rw c.of.ensures (over_limit (bytes ++ closing_bytes (length bytes) index) (omega (arith, same, c.estimate.ensures, length-append bytes (closing_bytes (length bytes) index), length-closing (length bytes) index)))

pub returns : goal.returns
returns c =
    let bytes : List ℕ = c.args.self.bytes.items in
    let index : List Entry = index_entries c.args.self.index.items in
    let same = ap (λ (b : BlockBuilding). length (block b.interval b.entries)) c.in_ok-index.ensures.ok ∙ ap (λ (x : List FlushedBlock). length (block 1 (index_entries x))) c.deref.ensures.value in
    let listed = ap (λ (b : BlockBuilding). b.entries) c.in_ok-index.ensures.ok ∙ ap index_entries c.deref.ensures.value in
    let written = c.in_ok-push_closing.ensures.ok ∙ ap (λ (x : List Entry). bytes ++ closing_bytes (length bytes) x) listed in
    in_limit (bytes ++ closing_bytes (length bytes) index) (omega (arith, same, c.estimate.ensures, length-append bytes (closing_bytes (length bytes) index), length-closing (length bytes) index))
    ∙ ap (λ (x : List ℕ). Ok x) (sym written)
