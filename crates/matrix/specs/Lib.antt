pub mod ByteTests
pub mod EndMarkOfShape
pub mod GrammarShape
pub mod WordsOfShape
