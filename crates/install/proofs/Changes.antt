-- Changes of a folder, by their parts.
use Rattle.std.proofs.Common.{ℕ, List}
use Rattle.folder.specs.Calls.{Step, ToldFiles}
use Rattle.install.specs.FolderChange.{FolderCall, FolderChange}

abbrev pub change_by : List Step → List Step → ToldFiles → ToldFiles → FolderChange
change_by before after old new = record { before = before; after = after; old = old; new = new }

abbrev pub call_by : List Step → List Step → ToldFiles → ToldFiles → ℕ → ℕ → FolderCall
call_by before after old new failed now = record { change = change_by before after old new; failed = failed; now = now }
