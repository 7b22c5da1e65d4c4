pub mod Over
pub mod Last
pub mod Through
pub mod OverLaws
pub mod Taken
