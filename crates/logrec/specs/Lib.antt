-- what contracts rest on
pub mod Log
pub mod LogReader
-- serves proofs alone
pub mod CodeFragment
