mod DigitLemmas
mod DigitChunks
mod EscapedLemmas
mod PrintableLemmas
mod WideLemmas
mod TextLemmas
pub mod SpellingLemmas
