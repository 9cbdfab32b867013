pub use Rattle.ikey.proofs.Binds
pub use Rattle.ikey.proofs.Refusals
pub use Rattle.ikey.proofs.Ordered
pub use Rattle.edit.proofs.Edits
pub use Rattle.edit.proofs.Inserted
pub use Rattle.edit.proofs.Snapshots
pub use Rattle.edit.proofs.SortedFiles
pub use Rattle.edit.proofs.Tested
pub mod NameLemmas
mod ManifestLemmas
mod ManifestReadings
pub mod OpeningLemmas
pub mod LoadingLemmas
pub mod ToldLemmas
mod RefusalLemmas
pub mod TellsLemmas
pub mod PutLemmas
pub mod ReadsLemmas
pub mod CrashLemmas
pub mod RunLemmas
pub mod NameEnds
pub mod WrittenLemmas
mod AloneLemmas
pub mod CountLemmas
pub mod ReportLemmas
mod MadeLemmas
