-- What is known of an output before it is written.
use Rattle.std.specs.Prelude.{◌≡◌, ◌≢◌, [], length}
use Rattle.block.specs.BuilderView.{last_key}
use Rattle.table.specs.EntryTests.{first_key}
use Rattle.cut.specs.declared.output_meta.OutputMeta.{OutputMeta}
use Rattle.cut.specs.Plan.{OutputView}

-- the number, the sizes and the bounds of an output of a plan, which has an entry
pub record IsMetaOf (p : OutputView) (m : OutputMeta) : Type 0 where
  pub number : m.number ≡ p.number
  pub some : p.entries ≢ []
  pub entries : m.entries ≡ length p.entries
  pub blocks : m.blocks ≡ length p.blocks
  pub len : m.len ≡ p.length
  pub smallest : m.smallest.bytes.now ≡ first_key p.entries
  pub largest : m.largest.bytes.now ≡ last_key [] p.entries
