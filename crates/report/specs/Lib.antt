pub mod EntryChunks
pub mod EntryTests
pub mod Merging
pub mod ReportCall
