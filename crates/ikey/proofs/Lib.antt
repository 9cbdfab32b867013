pub use Rattle.coding.proofs.Binds
pub use Rattle.coding.proofs.Refusals
pub mod Keys
pub mod Ordered
pub mod Shortened
pub mod Answered
pub mod Words
pub mod Heads
