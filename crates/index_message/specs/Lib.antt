-- One message of HTTP/1.1 (RFC 9112).
pub mod Reads
pub mod Heads
pub mod Fields
pub mod Routes
pub mod Resources
pub mod Lengths
pub mod Requests
pub mod Messages
