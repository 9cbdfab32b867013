-- of lower crates, whose words these use
pub use Rattle.ikey.specs.declared.kind
pub use Rattle.split.specs.BuilderView
pub use Rattle.table.specs.EncodedEntry
pub use Rattle.table.specs.CheckedContents
pub use Rattle.table.specs.EntriesFrom
pub use Rattle.table.specs.EntryTests
pub use Rattle.table.specs.IndexReading
pub use Rattle.table.specs.Table
pub use Rattle.table.specs.TableBytes
pub use Rattle.table.specs.TableContents
pub use Rattle.table.specs.TestResult
pub use Rattle.table.specs.Trailer
pub use Rattle.edit.specs.declared.meta
pub use Rattle.split.specs.Boundaries
pub use Rattle.split.specs.Ranges
pub use Rattle.merge.specs.MergedLists
pub use Rattle.merge.specs.Union
-- what contracts rest on
pub mod Tables
pub mod Gets
pub mod Lawful
pub mod NewestFirst
pub mod Bounds
pub mod StatedFiles
pub mod TableOrder
pub mod FileList
-- serves proofs alone
pub mod Visible
pub mod FileChecks
pub mod Places
