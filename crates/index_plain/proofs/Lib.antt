pub mod TreeLemmas
pub mod PairLemmas
pub mod ValueLemmas
pub mod OwnerLemmas
pub mod BearerLemmas
pub mod UserLemmas
pub mod RowLemmas
mod Words
