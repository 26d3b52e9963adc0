pub mod Toads
