pub mod Survivors
