-- what contracts rest on
pub mod EntrySpanView
pub mod EntryWalkView
pub mod Stops
pub mod Outputs
pub mod Segments
pub mod Plan
pub mod OutputPlan
pub mod Groups
pub mod OutputMeta
pub mod Lengths
-- serves proofs alone
pub mod PlannedBlocks
pub mod RunPlace
pub mod SpanPlaces
pub mod PlaceKey
pub mod ChunkWalk
pub mod BlockInProgress
pub mod OverlapStops
pub mod OutputInProgress
pub mod OutputCuts
pub mod TableLength
pub mod BlockNumbers
pub mod PlanInvariant
pub mod PlanTables
