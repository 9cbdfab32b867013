pub mod Loaded
mod Found
pub mod SameTables
pub mod TablesAfter
pub mod NoDevice
mod Synced
mod SyncsTold
mod SurvivingCalls
mod TableSyncs
pub mod Flow
pub mod InputNumbers
pub mod InputsApart
mod LentRises
mod CheckedInputs
mod HeldInputs
mod PickedParts
mod OrderlyFiles
pub mod Answered
pub mod Compactions
pub mod InstallPart
pub mod StepPart
mod PlannedPart
pub mod RunPart
mod NamesThere
mod Runs
mod WholeOutcomes
mod GroupRuns
pub mod Descending
pub mod CleanParts
pub mod PartFiles
pub mod PartRefusals
pub mod PlacedInputs
mod ChosenInputs
pub mod ClosedJoint
pub mod StayingParts
pub mod PartAnswers
mod PartNumbers
pub mod NamedEnds
