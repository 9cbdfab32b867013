-- What comes of reading CURRENT again.
use Rattle.std.specs.Prelude.{◌≡◌, ◌≢◌, ℕ, List, codes, Option, Some, Result, Ok, Err}
use Rattle.edit.specs.Answers.{fault}
use Rattle.edit.specs.fault.Fault.{Fault}
use Rattle.edit.specs.fault.FaultName.TheVariants.{Changed}
use Rattle.folder.specs.Names.{current_text}
use Rattle.folder.specs.Calls.{ToldFiles}

-- Ok if CURRENT holds the text that names the manifest of this number, Changed if it holds anything
-- else or isn't there.
abbrev pub IsCurrentAnswer : {T : Type 0} → ToldFiles → ℕ → Result T Fault → Type 0
IsCurrentAnswer tells opened (Ok _) = tells (codes "CURRENT") (Some (current_text opened))
IsCurrentAnswer tells opened (Err e) = (held : Option (List ℕ)) × tells (codes "CURRENT") held
    × (held ≢ Some (current_text opened)) × (e ≡ fault Changed)
