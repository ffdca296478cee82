pub mod Joined
pub mod ShapeLaw
