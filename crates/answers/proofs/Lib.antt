mod JsonLemmas
mod RowLemmas
pub mod Appended
mod HeldTables
mod FolderLineLemmas
mod ValueLineLemmas
mod TableLemmas
