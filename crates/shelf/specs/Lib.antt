-- what contracts rest on
pub mod Shelf
-- serves proofs alone
pub mod Alters
pub mod Source
