pub mod ReadingLaws
pub mod TextFed
