pub mod Cut
pub mod Faults
pub mod FileName
pub mod Printed
pub mod Project
pub mod Release
pub mod Spelling
pub mod Steps
