use Rattle.std.proofs.Common.{◌<◌, ◌≤◌, ℕ, List, [], length, refl, sym, ap, ◌∙◌, arith}
use Rattle.std.specs.Prelude.{flat_map}
use Rattle.std.proofs.lemmas.List.{take_all}
use Rattle.std.proofs.lemmas.List.Folds.{flat_map-map}
use Rattle.block.specs.EncodedEntry.{Entry}
use Rattle.block.specs.BlockFormat.{block}
use Rattle.table.specs.Trailer.{stored_block}
use Rattle.table.proofs.Refused.{fine}
use Rattle.cut.specs.declared.planned_block.PlannedBlock.{PlannedBlock}
use Rattle.cut.proofs.Listed.{listed_more}
use Rattle.cut.proofs.data_blocks.encode_blocks.Goals as goal

pub loop-block-preserved : goal.loop-block-preserved
loop-block-preserved c =
    let r : ℕ = c.args.interval in
    let b : PlannedBlock = c.block-item.result in
    let front : List ℕ = c.loop-block.out.items in
    let lt : c.loop-block.block-index < length c.args.blocks.now = omega (arith, c.loop-block-test.true) in
    listed_more (λ (x : PlannedBlock). stored_block (block r x.entries.entries)) c.args.blocks.now c.loop-block.block-index b [] front c.push_stored.new.out.items (stored_block (block r b.entries.entries)) lt (sym c.block-item.is) c.loop-block.invariant refl c.in_ok-push_stored.ensures.ok

pub returns : goal.returns
returns c =
    let blocks : List PlannedBlock = c.args.blocks.now in
    let r : ℕ = c.args.interval in
    let end : length blocks ≤ c.loop-block.block-index = omega (arith, c.loop-block-test.false) in
    ap fine
    (flat_map-map (λ (p : List Entry). stored_block (block r p)) (λ (b : PlannedBlock). b.entries.entries) blocks
    ∙ ap (flat_map (λ (b : PlannedBlock). stored_block (block r b.entries.entries))) (sym (take_all c.loop-block.block-index blocks end))
    ∙ sym c.loop-block.invariant)
