pub mod Cuts
pub mod Calls
pub mod Progress
pub mod RunEnds
pub mod CauseLemmas
pub mod Histories
pub mod Choices
pub mod ExchangeCauses
pub mod FaultTexts
pub mod Served
pub mod WentLemmas
pub mod FilesServed
pub mod LinesWentLemmas
mod Words
