-- what contracts rest on
pub mod VersionFault
pub mod FileFaults
pub mod KeyFaults
pub mod AllFaults
pub mod FaultLaws
-- serves proofs alone
pub mod Findings
pub mod ToldFaults
pub mod KeyWalk
pub mod RangeKeys
pub mod FileOrder
