pub mod Entries
pub mod Room
pub mod Views
pub mod Spared
