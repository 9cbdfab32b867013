-- A folder in memory: its files at first, and the calls since that write.
use Rattle.std.specs.Prelude.{ℕ, if◌then◌else◌, List, [], ◌∷◌, Some, None, string_bytes}
use Rattle.std.specs.Map.{lookup}
use Rattle.std.specs.Str.{bytes_eq}
use Rattle.folder.specs.Calls.{Files, Step, with_moved, with_value}
use Rattle.folder.specs.Readings.{Reading}
use Rattle.shelf.specs.declared.shelf_step.ShelfCall.{ShelfCall}
use Rattle.shelf.specs.declared.shelf_step.ShelfCall.TheVariants.{Create, Remove, Rename, Sync}
use Rattle.shelf.specs.declared.shelf_step.ShelfCall.TheVariants.{SyncFolder}
use Rattle.shelf.specs.declared.shelf_step.ShelfStep.{ShelfStep}

-- the bytes under each name; of several files of one name the first counts
abbrev pub files_in : List (List ℕ × List ℕ) → Files
files_in files name = lookup (bytes_eq name) files

-- the files after a call
abbrev pub made_by : ShelfCall → Files → Files
made_by (Create name bytes) files = with_value files (string_bytes name) (Some bytes.items)
made_by (Rename from to) files = with_moved None files (string_bytes from) (string_bytes to)
made_by (Remove name) files = with_value files (string_bytes name) None
made_by (Sync name) files = files
made_by SyncFolder files = files

-- the files after a step
abbrev pub files_after_step : ShelfStep → Files → Files
files_after_step step files = if step.is_shown then made_by step.call files else files

-- the files after all steps, of which the newest is first
abbrev pub files_after_steps : List ShelfStep → Files → Files
files_after_steps [] files = files
files_after_steps (step ∷ steps) files = files_after_step step (files_after_steps steps files)

-- the calls on a folder in memory
pub record ShelfCalls : Type 0 where
  -- those that write, the newest first, without those that ran out of memory
  pub steps : List ShelfStep
  -- all that write, in their order
  pub trail : List Step
  -- the files that were read
  pub readings : List Reading
  -- how many calls were made and how often the device failed, each up to 2^64 - 1
  pub calls : ℕ
  pub failures : ℕ

-- a folder in memory: the files that were lent to it, of which of one name the first counts
pub record ShelfView : Type 0 where
  pub start : List (List ℕ × List ℕ)
  pub made : ShelfCalls

-- the bytes under each name
abbrev pub held_by : ShelfView → Files
held_by shelf = files_after_steps shelf.made.steps (files_in shelf.start)
