-- Where the bytes under a name come from.
use Rattle.std.specs.Prelude.{ℕ, List, Option, Some, None}
use Rattle.folder.specs.Calls.{Files}
use Rattle.shelf.specs.declared.shelf_step.Source.{Source}
use Rattle.shelf.specs.declared.shelf_step.Source.TheVariants.{Bytes, Nothing, Name}

-- the bytes that the source gives, if these were the files before
abbrev pub from_source : Files → Source → Option (List ℕ)
from_source files (Bytes bytes) = Some bytes.now
from_source files Nothing = None
from_source files (Name name) = files name.now
