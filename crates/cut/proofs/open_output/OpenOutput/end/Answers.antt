use Rattle.std.proofs.Common.{◌≡◌, [], ◌∷◌, ◌++◌, ap, subst, ◌∙◌, rules}
use Rattle.std.proofs.lemmas.Bool.{both_ways}
use Rattle.table.specs.DataBlocks.{data_blocks}
use Rattle.cut.specs.declared.planned_block.PlannedBlock.{PlannedBlock}
use Rattle.cut.specs.PlannedBlocks.{block_lists}
use Rattle.cut.specs.OutputInProgress.{OutputInProgress}
use Rattle.cut.proofs.Opened.{blocks_some, blocks_none}
use Rattle.cut.proofs.open_output.OpenOutput.end.Goals as goal
use Rattle.cut.proofs.open_output.OpenOutput.end.Goals.{then-not-is_empty, else-not-is_empty}

pub returns-clause-blocks : goal.returns-clause-blocks
returns-clause-blocks c =
    let was = c.self.inside in
    subst (λ (s : OutputInProgress). block_lists c.replace.result.items ≡ data_blocks s.options s.entries) c.self.view_is
    (elim c.if-not-is_empty.branch [
      | then-not-is_empty w ↦
          let b : PlannedBlock = w.end-block.result in
          let items : c.replace.result.items ≡ was.blocks.items ++ b ∷ [] = search rules in
          ap block_lists items ∙ blocks_some was.options was.blocks.items was.flushed _ was.current b c.self.invariant (λ none. both_ways c.is_empty.result w.if-not-is_empty.true (c.is_empty.ensures.1 none)) w.end-block.ensures.entries
      | else-not-is_empty w ↦
          let items : c.replace.result.items ≡ was.blocks.items = search rules in
          ap block_lists items ∙ blocks_none was.options was.blocks.items was.flushed _ was.current c.self.invariant (c.is_empty.ensures.0 w.if-not-is_empty.false)
    ])
