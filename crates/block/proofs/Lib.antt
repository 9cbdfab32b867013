pub mod Pieces
pub mod Restarts
pub mod Splits
pub mod Areas
pub mod Walks
pub mod Places
pub mod Checks
pub mod Written
pub mod Built
pub mod Sizes
pub mod BlockReadings
pub mod CheckingSteps
mod KeyRooms
