pub mod AnswerLines
pub mod LineSamples
