-- of lower crates, whose words these use
pub use Rattle.ikey.specs.Answers
pub use Rattle.ikey.specs.Varint
pub use Rattle.ikey.specs.fault
pub use Rattle.ikey.specs.Bytewise
pub use Rattle.ikey.specs.Comparator
pub use Rattle.ikey.specs.Order
pub use Rattle.ikey.specs.Shortlex
pub use Rattle.edit.specs.Edit
pub use Rattle.edit.specs.Tag
pub use Rattle.edit.specs.Version
pub use Rattle.edit.specs.VersionOrder
pub use Rattle.edit.specs.declared.meta
-- what contracts rest on
pub mod Names
pub mod Folder
pub mod Calls
pub mod Readings
pub mod Manifest
pub mod Orders
pub mod OpenAnswer
pub mod Reports
pub mod Levels
pub mod LoadedTables
pub mod Crash
pub mod ReadsAs
pub mod CallSequence
pub mod TableFiles
pub mod Attempts
-- serves proofs alone
pub mod WrittenFiles
pub mod FreeNames
pub mod ManifestReading
