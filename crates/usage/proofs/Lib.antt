mod CommandLemmas
mod LineLemmas
mod NumberLists
