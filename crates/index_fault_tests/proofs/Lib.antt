pub mod ClientLemmas
mod WalkLemmas
