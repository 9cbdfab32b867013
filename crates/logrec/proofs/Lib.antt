pub mod Bytes
pub mod Pieces
pub mod Lefts
pub mod Logs
pub mod Loops
pub mod Readers
