pub mod Sources
