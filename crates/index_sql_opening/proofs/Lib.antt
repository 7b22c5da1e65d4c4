pub mod FillLemmas
pub mod SureTexts
pub mod NewAskLemmas
pub mod RowidLemmas
pub mod LookLemmas
pub mod MigrationLemmas
pub mod SureLemmas
mod Words
