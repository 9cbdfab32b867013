-- what contracts rest on
pub mod WholeAnswer
pub mod LevelLeft
pub mod WholeRuns
pub mod Survival
pub mod ApartParts
pub mod LevelMade
pub mod DescentRuns
pub mod DescentLeft
-- serves proofs alone
pub mod LevelTaken
pub mod PartsEnd
