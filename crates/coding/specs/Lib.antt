-- what contracts rest on
pub mod Answers
pub mod Saturated
pub mod Varint
pub mod Crc
-- serves proofs alone
pub mod CrcRegister
pub mod CrcWindow
