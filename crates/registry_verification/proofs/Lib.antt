pub mod Marked
pub mod Starred
