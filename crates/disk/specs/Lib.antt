-- what contracts rest on
pub mod CallHistory
