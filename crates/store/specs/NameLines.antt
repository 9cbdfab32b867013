-- A text with the lines of tables that are there, so far.
use Rattle.std.specs.Prelude.{ℕ, List, ◌++◌, Result, Ok}
use Rattle.std.specs.List.{flat_map}
use Rattle.folder.specs.Answers.{◌>>=◌}
use Rattle.folder.specs.fault.Fault.{Fault}
use Rattle.folder.specs.Calls.{Files}
use Rattle.store.specs.FilesToCompact.{name_line, name_there, names_there}

-- a text, and then the lines of these numbers
abbrev pub lines_after : Files → List ℕ → List ℕ → Result (List ℕ) Fault
lines_after files text numbers = names_there files numbers >>= λ names.
    Ok (text ++ flat_map name_line names)

-- the line of one number
abbrev pub line_after : Files → List ℕ → ℕ → Result (List ℕ) Fault
line_after files text number = name_there files number >>= λ name. Ok (text ++ name_line name)
