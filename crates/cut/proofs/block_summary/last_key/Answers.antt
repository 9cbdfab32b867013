use Rattle.std.proofs.Common.{◌≡◌, ◌<◌, ◌-◌, length, sym, ap, subst, ◌∙◌, arith}
use Rattle.std.specs.Option.{option_map}
use Rattle.cut.specs.declared.planned_block.PlannedBlock.{PlannedBlock}
use Rattle.cut.specs.BlockInProgress.{last_entry_key}
use Rattle.cut.proofs.BlockSums.{last_block, some_len}
use Rattle.cut.proofs.TableLengths.{some_at, some_ended}
use Rattle.cut.proofs.block_summary.last_key.Goals as goal

pub unreachable-requires : goal.unreachable-requires
unreachable-requires c =
    let b : PlannedBlock = c.index-blocks-blocks.result in
    let is = sym c.index-blocks-blocks.is in
    let some : 0 < length c.args.blocks.now = some_len c.args.blocks.now c.requires.any in
    let ends = subst (λ (x : PlannedBlock). option_map (λ key. key.bytes.now) c.last_key.result ≡ last_entry_key x.entries.entries) is c.last_key.ensures in
    some_ended b.entries.entries (some_at c.args.blocks.now (length c.args.blocks.now - 1) b (omega arith) c.requires.some is) (sym ends ∙ ap (option_map (λ key. key.bytes.now)) c.in-None.is)

pub returns : goal.returns
returns c =
    let b : PlannedBlock = c.index-blocks-blocks.result in
    let is = sym c.index-blocks-blocks.is in
    let some : 0 < length c.args.blocks.now = some_len c.args.blocks.now c.requires.any in
    let ends = subst (λ (x : PlannedBlock). option_map (λ key. key.bytes.now) c.last_key.result ≡ last_entry_key x.entries.entries) is c.last_key.ensures in
    last_block c.args.blocks.now (length c.args.blocks.now - 1) b (omega arith) c.requires.some is ∙ sym ends ∙ ap (option_map (λ key. key.bytes.now)) c.in-Some.is
