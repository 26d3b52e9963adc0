pub mod Frames
pub mod Printed
pub mod Runs
