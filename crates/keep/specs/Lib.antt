-- of lower crates, whose words these use
pub use Rattle.reads.specs.EncodedEntry
pub use Rattle.reads.specs.TableContents
pub use Rattle.reads.specs.TestResult
pub use Rattle.reads.specs.meta
pub use Rattle.merge.specs.MergedLists
pub use Rattle.merge.specs.Union
pub use Rattle.reads.specs.Gets
pub use Rattle.reads.specs.Lawful
pub use Rattle.reads.specs.Tables
-- what contracts rest on
pub mod Readable
pub mod DropRule
pub mod RisesBy
pub mod Marks
pub mod Runs
pub mod RangeStart
pub mod OneKey
pub mod SharedLengths
pub mod Sizes
-- serves proofs alone
pub mod Versions
pub mod KeyBuffer
pub mod EntryChunks
pub mod WalkedRange
pub mod RangeWalk
