mod Names
mod Unused
pub mod Stays
mod Telling
mod NumberSets
mod ObsoleteNames
pub mod Changes
pub mod Parts
pub mod Outputs
pub mod Switch
pub mod Moments
pub mod Options
pub mod Numbers
pub mod Edited
mod Installed
mod Files
mod Current
mod InstallRuns
mod Before
pub mod Grouped
pub mod WorkRows
mod NamedReads
pub mod Pieces
mod Survival
mod TwoPieces
mod CallsAlone
mod Sound
pub mod DeletedSets
pub mod JoinedBytes
mod NothingNamed
mod WideTexts
