-- What contracts see of a folder that tells nothing.
use Rattle.std.specs.Prelude.{ℕ, List}
use Rattle.folder.specs.Calls.{Step}
use Rattle.folder.specs.Readings.{Reading}

-- the calls that write in their order, those that failed too, the files that were read, and how
-- often the device has failed
pub record CallHistory : Type 0 where
  pub trail : List Step
  pub readings : List Reading
  pub failures : ℕ
