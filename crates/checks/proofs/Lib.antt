pub mod Lent
mod TableRounds
mod BoundsLemmas
pub mod FallingRanges
pub mod CommonRanges
pub mod NeededLemmas
pub mod FoundTables
mod ToldTables
pub mod HeldAnswers
pub mod FileTables
mod KeptTables
mod ReadTables
mod RangeLemmas
mod SweepLemmas
mod CountLemmas
mod OrderLemmas
mod SoundNumbers
pub mod FolderTests
mod WalkLemmas
mod TableSizes
pub mod TableRefusals
pub mod LawfulLemmas
mod CheckedTables
pub mod TakerLemmas
