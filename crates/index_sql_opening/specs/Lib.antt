pub mod Created
pub mod NewAsks
pub mod Names
pub mod Versions
pub mod Migrated
pub mod Making
pub mod SameTables
