-- what contracts rest on
pub mod Text
pub mod Escaped
pub mod Spelling
