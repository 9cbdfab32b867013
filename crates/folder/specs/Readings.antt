-- Which files were read whole, when, and what was answered.
use Rattle.std.specs.Prelude.{ℕ, List, [], ◌∷◌, ◌++◌, Option, Result, Ok, Err}
use Rattle.std.specs.Global.{Vec}
use Rattle.std.specs.Option.{option_map}
use Rattle.folder.specs.Calls.{Step}
use Rattle.folder.specs.declared.folder.FolderFault.{FolderFault}

-- the calls that write made before, the name of the file that was read, and its bytes, None for no
-- file
abbrev pub Reading : Type 0
Reading = List Step × List ℕ × Option (List ℕ)

-- the readings after a call that reads a file of this name, when these calls that write were made;
-- one that fails adds none
abbrev pub readings_after : List Reading → List Step → List ℕ →
    Result (Option (Vec ℕ)) FolderFault → List Reading
readings_after before made name (Ok held) =
    before ++ (made, name, option_map (λ (bytes : Vec ℕ). bytes.items) held) ∷ []
readings_after before made name (Err e) = before
