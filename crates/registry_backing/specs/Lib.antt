pub mod Backings
