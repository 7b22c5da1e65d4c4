pub mod Json
pub mod Keys
pub mod Object
pub mod Reading
pub mod Requests
pub mod Line
pub mod AnswerText
pub mod StandingText
