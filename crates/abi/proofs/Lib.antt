pub mod Answered
pub mod AnsweredLabels
