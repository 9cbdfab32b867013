-- what contracts rest on
pub mod EncodedEntry
pub mod BlockFormat
pub mod BuilderView
pub mod EntryFormat
pub mod BlockView
pub mod BlockReading
pub mod CheckedBytes
-- serves proofs alone
pub mod EntriesOfBytes
pub mod BuilderState
pub mod BlockParts
pub mod EntryLengths
pub mod FrontField
pub mod CursorPlace
pub mod FoldedLines
pub mod BlockPass
pub mod CheckingWalk
