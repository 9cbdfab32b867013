-- of lower crates, whose words these use
pub use Rattle.reads.specs.Gets
pub use Rattle.reads.specs.Tables
-- what contracts rest on
pub mod TableReadings
pub mod LawfulTables
pub mod TestedTables
pub mod NeededFiles
pub mod HeldTables
pub mod RangeOrder
pub mod TableBounds
pub mod Takers
-- serves proofs alone
pub mod TablePlaces
pub mod GroupTest
pub mod InOrder
pub mod TableAnswers
pub mod FileStarts
pub mod HeldBytes
pub mod CommonRange
