-- of lower crates, whose words these use
pub use Rattle.split.specs.Ranges
-- what contracts rest on
pub mod FolderRequest
pub mod Step
pub mod Answers
pub mod OrderView
pub mod Choice
pub mod InputsCompaction
pub mod VersionSync
pub mod Compaction
pub mod StepLeft
pub mod Runs
pub mod CompactionWork
pub mod OpenedAfter
pub mod Descent
pub mod Cleaning
pub mod Outcome
pub mod OutputRanges
pub mod PickedOutcome
pub mod ClosedLaws
pub mod WholeOutcome
pub mod FilesToCompact
pub mod Telling
pub mod NamedEdits
-- serves proofs alone
pub mod CallsAnswer
pub mod LentFiles
pub mod InputLaws
pub mod FoundInputs
pub mod NameLines
pub mod ManifestReady
