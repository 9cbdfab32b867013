-- of lower crates, whose words these use
pub use Rattle.split.specs.Bounds
-- what contracts rest on
pub mod MergedLists
pub mod Union
pub mod LeastList
pub mod Seeks
pub mod InRange
pub mod CursorsLeft
pub mod FirstEntry
-- serves proofs alone
pub mod Tournament
