-- what contracts rest on
pub mod Dump
pub mod Objects
pub mod Rows
pub mod VersionAnswer
pub mod ValueForms
pub mod FolderLines
pub mod FaultLines
pub mod CompactionAnswer
pub mod StatsObject
-- what serves proofs alone
pub mod Fields
pub mod Seen
