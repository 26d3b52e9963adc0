pub mod Applies
pub mod Effects
