pub mod Trees
pub mod Pairs
pub mod Bearers
pub mod Plain
pub mod RowsOf
pub mod Picked
pub mod NameFiles
