-- of lower crates, whose words these use
pub use Rattle.coding.specs.Answers
pub use Rattle.coding.specs.declared.fault
pub use Rattle.ikey.specs.Comparator
pub use Rattle.ikey.specs.Key
pub use Rattle.ikey.specs.Order
-- what contracts rest on
pub mod Tag
pub mod Field
pub mod Edit
pub mod Version
pub mod VersionOrder
-- serves proofs alone
pub mod FieldReader
pub mod CodeFields
pub mod FilePlaces
