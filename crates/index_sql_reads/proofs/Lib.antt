pub mod FindsLemmas
pub mod WalkLemmas
pub mod QueryLemmas
pub mod EndLemmas
pub mod HeldLemmas
pub mod ReleaseLemmas
mod Words
