-- of lower crates, whose words these use
pub use Rattle.reads.specs.kind
-- what contracts rest on
pub mod Row
pub mod Rows
pub mod Prefixes
pub mod CountedRows
pub mod ChosenRows
pub mod RowsLaw
pub mod ToldRows
pub mod TestedScan
pub mod HiddenEntries
pub mod Stats
pub mod TestedStats
pub mod FolderTables
pub mod Excuses
pub mod UserHistory
pub mod KeyHistory
-- serves proofs alone
pub mod PlacedEntries
pub mod SearchAnswers
pub mod EntryRows
pub mod RowParts
pub mod Counts
pub mod ListParts
pub mod LevelCounts
pub mod LevelRows
