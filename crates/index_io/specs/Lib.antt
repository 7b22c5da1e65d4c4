-- Bytes in and bytes out.
pub mod Counts
pub mod Bytes
