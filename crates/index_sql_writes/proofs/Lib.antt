pub mod StepLemmas
pub mod TakenLemmas
pub mod InTurn
pub mod PutRecords
pub mod QueryLemmas
pub mod BodyLemmas
pub mod AskLemmas
pub mod SureWrites
pub mod GoingLemmas
pub mod ShutLemmas
pub mod CommitLemmas
pub mod StepAskLemmas
pub mod NameLemmas
mod Words
