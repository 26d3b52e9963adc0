pub mod StatusWrites
