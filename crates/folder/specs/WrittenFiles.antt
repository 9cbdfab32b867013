-- A file that was written.
use Rattle.std.specs.Prelude.{◌≡◌, ℕ, true, List, Some}
use Rattle.folder.specs.Crash.{World}

-- the file is there under its name with its bytes, and was synced since
pub record IsWritten (w : World) (file : List ℕ × List ℕ) : Type 0 where
  pub held : w.shown.files file.0 ≡ Some file.1
  pub synced : w.shown.synced file.0 ≡ true
