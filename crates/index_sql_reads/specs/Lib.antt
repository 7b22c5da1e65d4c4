pub mod ConnectionTables
pub mod Finds
pub mod Sealed
pub mod UsualNames
pub mod Reads
pub mod ProhibitedRow
pub mod Handed
pub mod WalkReasons
