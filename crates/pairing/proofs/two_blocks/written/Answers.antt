use Rattle.std.proofs.Common.{◌≡◌, ◌++◌, ◌≤◌, ◌+◌, List, ℕ, length, drop, sym, ap, ◌∙◌, arith}
use Rattle.block.specs.EncodedEntry.{Entry}
use Rattle.block.specs.BlockFormat.{block}
use Rattle.block.specs.BuilderView.{BlockBuilding, with_entry}
use Rattle.block.proofs.Sizes.{length-block-nil}
use Rattle.pairing.specs.Blocks.{block_within}
use Rattle.pairing.specs.TestedUnion.{tested_entries}
use Rattle.pairing.proofs.Unions.{room, too_large}
use Rattle.pairing.proofs.TestedLists.{one_more}
use Rattle.pairing.proofs.two_blocks.written.Goals as goal

pub loop-entry-init : goal.loop-entry-init
loop-entry-init c = record {
  interval = ap (λ (b : BlockBuilding). b.interval) c.new-builder.ensures;
  entries = ap (λ (b : BlockBuilding). b.entries ++ tested_entries c.args.entries.now) c.new-builder.ensures;
  small = omega (arith, ap (λ (b : BlockBuilding). length (block 16 b.entries)) c.new-builder.ensures, length-block-nil 16);
}

pub add-requires : goal.add-requires
add-requires c =
    let key : length c.bytes.result.now ≤ 65535 + 8 = omega (arith, ap length c.bytes.ensures, c.as_key-key.result.lawful.fits) in
    room c.loop-entry.builder c.bytes.result.now c.entry-item.result.value.now c.loop-entry.invariant.interval c.loop-entry.invariant.small key c.entry-item.result.limited

pub returns-then-estimate-gt-MAX_TABLE_LEN : goal.returns-then-estimate-gt-MAX_TABLE_LEN
returns-then-estimate-gt-MAX_TABLE_LEN c =
    let i = c.loop-entry.entry-index in
    let rest : List Entry = tested_entries (drop (i + 1) c.args.entries.now) in
    let longer : List Entry = with_entry c.loop-entry.builder.entries c.bytes.result.now c.entry-item.result.value.now in
    let size : c.estimate.result ≡ length (block 16 longer) =
    c.estimate.ensures ∙ ap (λ (b : BlockBuilding). length (block b.interval b.entries)) c.in_ok-add.ensures.ok ∙ ap (λ (n : ℕ). length (block n longer)) c.loop-entry.invariant.interval in
    let same : longer ++ rest ≡ tested_entries c.args.entries.now =
    one_more c.loop-entry.builder.entries c.args.entries.now i c.entry-item.result c.bytes.result.now (tested_entries c.args.entries.now) c.loop-entry-test.true c.entry-item.is (c.bytes.ensures ∙ c.as_key-key.ensures) c.loop-entry.invariant.entries in
    rw c.of.ensures (ap block_within (sym same) ∙ too_large longer rest (omega (arith, size, c.if-estimate-gt-MAX_TABLE_LEN.true)))

pub loop-entry-preserved : goal.loop-entry-preserved
loop-entry-preserved c =
    let i = c.loop-entry.entry-index in
    let longer : List Entry = with_entry c.loop-entry.builder.entries c.bytes.result.now c.entry-item.result.value.now in
    let size : c.estimate.result ≡ length (block 16 longer) =
    c.estimate.ensures ∙ ap (λ (b : BlockBuilding). length (block b.interval b.entries)) c.in_ok-add.ensures.ok ∙ ap (λ (n : ℕ). length (block n longer)) c.loop-entry.invariant.interval in
    record {
      interval = ap (λ (b : BlockBuilding). b.interval) c.in_ok-add.ensures.ok ∙ c.loop-entry.invariant.interval;
      entries = ap (λ (b : BlockBuilding). b.entries ++ tested_entries (drop (i + 1) c.args.entries.now)) c.in_ok-add.ensures.ok
          ∙ one_more c.loop-entry.builder.entries c.args.entries.now i c.entry-item.result c.bytes.result.now (tested_entries c.args.entries.now) c.loop-entry-test.true c.entry-item.is (c.bytes.ensures ∙ c.as_key-key.ensures) c.loop-entry.invariant.entries;
      small = omega (arith, size, ap (λ (b : BlockBuilding). length (block 16 b.entries)) c.in_ok-add.ensures.ok, c.if-estimate-gt-MAX_TABLE_LEN.false);
    }
