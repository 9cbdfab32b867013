-- of lower crates, whose words these use
pub use Rattle.coding.specs.Answers
pub use Rattle.coding.specs.Crc
pub use Rattle.coding.specs.Varint
pub use Rattle.coding.specs.declared.fault
-- what contracts rest on
pub mod Comparator
pub mod Bytewise
pub mod Shortlex
pub mod Key
pub mod Order
pub mod ShortenedKeys
-- serves proofs alone
pub mod BytewiseLaws
pub mod ShortlexLaws
