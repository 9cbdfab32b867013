-- What is said of a folder that tells nothing.
use Rattle.std.proofs.Common.{ℕ, List, [], Option, Some, None, sym, ◌∙◌}
use Rattle.std.proofs.lemmas.Option.{none-some}
use Rattle.folder.specs.Calls.{Step, TellsAfter}

-- it lets more than one thing be read, so of it all is true
pub tells_nothing : (step : Step) (new : List ℕ → Option (List ℕ) → Type 0) → TellsAfter step (λ name held. Unit {0}) new
tells_nothing step new s h = absurd (none-some _ (sym ((h [] None).0 tt) ∙ (h [] (Some [])).0 tt))
