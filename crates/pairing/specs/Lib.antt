-- what contracts rest on
pub mod EntryTests
pub mod Blocks
-- serves proofs alone
pub mod TestedUnion
pub mod Ranges
pub mod Repeats
