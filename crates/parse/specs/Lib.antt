pub mod ParseCall
pub mod ParseGiven
pub mod ParseLaws
