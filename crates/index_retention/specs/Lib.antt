pub mod Attempts
pub mod Printed
pub mod Transfer
