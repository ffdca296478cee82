pub mod EntryPart
