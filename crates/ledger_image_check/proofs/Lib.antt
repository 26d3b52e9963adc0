pub mod Counts
pub mod RegistryChecks
pub mod CheckLaws
pub mod Reread
