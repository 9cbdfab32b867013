-- What may be wrong with a version.
use Rattle.std.specs.Prelude.{ℕ, List}
use Rattle.faults.specs.declared.file_fault.FileFault.{FileFault}

-- a user key whose entries are not in their order, and the numbers of two files that hold it
pub record MisplacedKey : Type 0 where
  pub user : List ℕ
  pub file : ℕ
  pub other : ℕ

-- something is wrong with the file of a number, or with a user key
pub data VersionFault : Type 0 where
  OfFile : ℕ → FileFault → VersionFault
  OfKey : MisplacedKey → VersionFault
