-- what contracts rest on
pub mod Ranges
pub mod ChosenFiles
pub mod Boundaries
pub mod PickedInputs
pub mod ClosedChoice
pub mod NumberedInputs
pub mod ApartChoice
pub mod Parts
-- serves proofs alone
pub mod Spans
pub mod Choices
pub mod FileRanges
