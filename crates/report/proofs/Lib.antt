pub mod ChunkLaw
pub mod EntryLaw
pub mod OutcomeLaw
pub mod ReportLaw
pub mod SortLaw
