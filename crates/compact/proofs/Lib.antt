pub use Rattle.reads.proofs.Orders
pub mod OptionLimits
pub mod EditLevels
pub mod PassedRequests
pub mod FileKeys
pub mod ClosedLevels
pub mod BoundaryRanges
pub mod ClosedHulls
pub mod Closing
pub mod ReadOrder
pub mod FallingOrder
pub mod Parting
pub mod StandingTogether
pub mod RowFacts
pub mod Gets
pub mod VersionInputs
pub mod AppliedEdit
pub mod Outputs
pub mod Sides
pub mod ChosenNumbers
pub mod ClosedChoices
pub mod PickedChoice
pub mod SafeInputs
pub mod Lookups
pub mod ReplacedInputs
pub mod LawfulAfter
pub mod SurvivingReads
pub mod WorkerAnswers
pub mod InputAnswers
pub mod RangeAnswers
pub mod ReadInputs
mod EncodedAnswers
mod PlanAnswers
mod Joined
mod NewFiles
mod GroupedAnswers
