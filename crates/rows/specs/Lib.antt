pub mod Answers
pub mod Reads
pub mod Schedule
