-- of lower crates, whose words these use
pub use Rattle.table.specs.declared.options
pub use Rattle.edit.specs.declared.outcome
pub use Rattle.keep.specs.declared.snapshots
pub use Rattle.keep.specs.Readable
pub use Rattle.keep.specs.Runs
pub use Rattle.cut.specs.Outputs
pub use Rattle.cut.specs.Plan
-- what contracts rest on
pub mod Request
pub mod Inputs
pub mod OutputTables
pub mod EditOf
pub mod OneThread
pub mod PassedRequest
pub mod ClosedInputs
pub mod InputsOver
pub mod InputsTogether
pub mod WorkedRow
pub mod GetsAfter
pub mod EditAfter
pub mod RequestOverVersion
pub mod SurvivingReads
pub mod KeptOutputs
pub mod RangeMerges
pub mod AnswerIn
pub mod GroupedAnswer
-- serves proofs alone
pub mod JobAnswers
pub mod WrittenOutputs
pub mod MergedRequest
pub mod CheckedInputs
