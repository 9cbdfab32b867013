-- what contracts rest on
pub mod EditFit
pub mod KeptEntries
pub mod Adoption
pub mod BothFolders
pub mod AdoptedOutcome
pub mod TakenOutcomes
pub mod TakenIn
-- serves proofs alone
pub mod AdoptionIn
pub mod Beginnings
pub mod TakingSteps
