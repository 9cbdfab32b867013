-- of lower crates, whose words these use
pub use Rattle.block.specs.BuilderView
-- what contracts rest on
pub mod Boundaries
pub mod Ranges
pub mod Bounds
pub mod SplitChoice
