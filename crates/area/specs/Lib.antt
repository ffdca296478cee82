pub mod Shape
pub mod ShapeCode
