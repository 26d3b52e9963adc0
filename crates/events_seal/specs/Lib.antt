pub mod Identifiers
pub mod Seals
