pub mod Told
pub mod EntrySteps
pub mod EntryAnswers
pub mod SortedNewer
pub mod VersionFiles
pub mod FileRows
pub mod MergedRows
pub mod OneList
pub mod EmptyRanges
pub mod RangeSteps
pub mod ScanAnswers
pub mod AmountSums
pub mod CountedEntries
pub mod HiddenSteps
pub mod WalkCounts
mod CountSteps
mod RowSteps
mod LevelParts
pub mod SortedCounts
pub mod LevelTables
pub mod LevelRanges
pub mod VersionCounts
pub mod StatsAnswers
pub mod Others
pub mod Giving
pub mod Parts
pub mod IndexAhead
pub mod UserEntries
mod HistorySteps
pub mod KeyHistories
mod PrefixKeys
mod CounterLemmas
