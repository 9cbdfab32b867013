-- Outputs that are being cut.
use Rattle.std.specs.Prelude.{List, ◌++◌}
use Rattle.block.specs.EncodedEntry.{Entry}
use Rattle.table.specs.declared.options.Options.{Options}
use Rattle.cut.specs.Outputs.{outputs_after}

-- the options, the outputs that have ended, the entries of the open output, and the entries still
-- to come
pub record OutputsInProgress : Type 0 where
  pub options : Options
  pub outputs : List (List Entry)
  pub latest : List Entry
  pub behind : List Entry

-- the outputs so far, and those of the open output and the rest of its segment
abbrev pub outputs_left : OutputsInProgress → List Entry → List (List Entry)
outputs_left c rest = c.outputs ++ outputs_after c.options c.latest rest
