pub mod EntryWords
pub mod OutcomeTests
pub mod OutcomeWords
