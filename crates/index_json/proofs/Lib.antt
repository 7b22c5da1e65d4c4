pub mod OnLiterals
mod RequestsFound
mod RequestsRead
pub mod Asked
