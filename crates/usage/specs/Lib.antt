-- what contracts rest on
pub mod Apps
pub mod Values
pub mod Verbosity
pub mod Lines
pub mod KeyLines
pub mod CompactLine
pub mod Line
-- serves proofs alone
pub mod Commands
