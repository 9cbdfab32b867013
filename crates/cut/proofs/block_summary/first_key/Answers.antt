use Rattle.std.proofs.Common.{◌≡◌, ◌++◌, List, sym, subst}
use Rattle.std.specs.Prelude.{Some, slice_get}
use Rattle.std.specs.Option.{option_map}
use Rattle.block.specs.EncodedEntry.{Entry}
use Rattle.cut.specs.declared.planned_block.PlannedBlock.{PlannedBlock}
use Rattle.cut.proofs.BlockSums.{first_of, some_len}
use Rattle.cut.proofs.TableLengths.{some_at}
use Rattle.cut.proofs.block_summary.first_key.Goals as goal

pub returns : goal.returns
returns c =
    let b : PlannedBlock = c.index-blocks-0.result in
    let key = c.key.result.bytes.now in
    let is = sym c.index-blocks-0.is in
    let some = some_len c.args.blocks.now c.requires.any in
    let all : c.first-first.result ≡ b.entries.entries ++ b.entries.behind = subst (λ (x : PlannedBlock). c.first-first.result ≡ x.entries.entries ++ x.entries.behind) is c.first-first.ensures in
    let first : option_map (λ (e : Entry). e.key) (slice_get (b.entries.entries ++ b.entries.behind) 0) ≡ Some key =
    subst (λ (es : List Entry). option_map (λ (e : Entry). e.key) (slice_get es 0) ≡ Some key) all c.key.ensures in
    first_of c.args.blocks.now b key some is (some_at c.args.blocks.now 0 b some c.requires.some is) first
