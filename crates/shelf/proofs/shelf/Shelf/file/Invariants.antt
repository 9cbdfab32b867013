use Rattle.std.proofs.Common.{◌≡◌, drop}
use denote.Shadow.{shadow}
use denote.Text.{Utf8}
use Rattle.folder.specs.Calls.{Files}
use Rattle.shelf.specs.Shelf.{files_after_steps}
use Rattle.shelf.proofs.shelf.Shelf.file.Given as goal

-- what was held under the sought name before the newer steps is what is held under the name
abbrev pub invariant-loop-step : goal.invariant-loop-step
invariant-loop-step l = record {
  text : shadow (Utf8 l.sought);
  same : (files : Files) → files_after_steps (drop l.step-index l.self-inside.history.steps) files l.sought ≡ files_after_steps l.self-inside.history.steps files l.name;
}
