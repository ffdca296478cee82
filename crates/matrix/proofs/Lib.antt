pub mod MatrixLaw
