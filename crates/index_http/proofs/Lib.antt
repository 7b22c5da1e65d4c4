pub mod Heads
pub mod Lengths
pub mod PassLemmas
pub mod EndLemmas
pub mod Histories
pub mod PageLemmas
pub mod ShowLemmas
pub mod AnswerLemmas
pub mod AskLemmas
pub mod Failures
pub mod RestLemmas
pub mod ChoiceLemmas
pub mod FaultReplies
pub mod HideLemmas
mod ApartReplies
mod Words
