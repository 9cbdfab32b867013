-- what contracts rest on
pub mod Codes
pub mod Places
pub mod Files
pub mod Orders
pub mod Tables
pub mod Requests
pub mod Closed
pub mod Rooms
pub mod Ranges
pub mod Runs
pub mod ToldRuns
pub mod Boundaries
pub mod Merges
pub mod Plans
pub mod Outputs
pub mod Edits
pub mod Hosts
pub mod HostWork
pub mod KeptReads
-- serves proofs alone
pub mod InputTables
pub mod Held
