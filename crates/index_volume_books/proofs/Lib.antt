pub mod OverLemmas
pub mod ThroughLemmas
pub mod TakenLemmas
pub mod LastLemmas
mod Words
