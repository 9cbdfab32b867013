pub mod Varints
mod Groups
mod Steps
pub mod Refusals
pub mod CrcDivision
pub mod CrcKernel
pub mod CrcMask
pub mod CrcRegisterLemmas
pub mod CrcTables
pub mod CrcWindows
pub mod Bytes
pub mod Binds
pub mod Beginnings
pub mod Texts
