use Rattle.std.proofs.Common.{List, length, refl, sym, ap, ◌∙◌, arith}
use Rattle.std.specs.Prelude.{slice_get}
use Rattle.std.specs.Option.{option_map}
use Rattle.block.specs.EncodedEntry.{Entry}
use Rattle.cut.specs.declared.planned_block.PlannedBlock.{PlannedBlock}
use Rattle.cut.specs.BlockInProgress.{last_entry_key}
use Rattle.cut.specs.OutputInProgress.{entries_in_blocks}
use Rattle.cut.proofs.BlockSums.{blocks_are, entries_some, first_is, last_is}
use Rattle.cut.proofs.block_summary.meta_of.Goals as goal

pub returns : goal.returns
returns c =
    let blocks : List PlannedBlock = c.args.output.now.blocks.items in
    record {
      number = refl;
      some = entries_some blocks c.requires.some;
      entries = c.count_entries.ensures ∙ ap (λ (bs : List PlannedBlock). length (entries_in_blocks bs)) c.deref.ensures.value;
      blocks = omega (arith, c.len.ensures, c.deref.ensures.len, ap length c.deref.ensures.value, blocks_are blocks);
      len = refl;
      smallest = first_is (entries_in_blocks blocks) _ (sym (ap (λ (bs : List PlannedBlock). option_map (λ (e : Entry). e.key) (slice_get (entries_in_blocks bs) 0)) c.deref-2.ensures.value) ∙ c.first_key.ensures);
      largest = last_is (entries_in_blocks blocks) _ (sym (ap (λ (bs : List PlannedBlock). last_entry_key (entries_in_blocks bs)) c.deref-3.ensures.value) ∙ c.last_key.ensures);
    }
