pub mod Conditions
pub mod Examples
pub mod Pieces
