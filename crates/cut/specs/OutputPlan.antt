-- A plan, as contracts see it.
use Rattle.std.specs.Prelude.{List, map}
use Rattle.block.specs.EncodedEntry.{Entry}
use Rattle.table.specs.declared.options.Options.{Options}
use Rattle.cut.specs.Plan.{OutputView}

-- the options of a plan, and its outputs
pub record PlanSeen : Type 0 where
  pub options : Options
  pub outputs : List OutputView

-- the entries of each output
abbrev pub lists_in : List OutputView → List (List Entry)
lists_in outputs = map (λ (p : OutputView). p.entries) outputs
