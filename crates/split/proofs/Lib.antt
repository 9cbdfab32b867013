pub use Rattle.table.proofs.Orders
pub mod RisingKeys
pub mod Covers
pub mod Sorted
pub mod Places
pub mod OneChoice
pub mod Lent
pub mod Samples
