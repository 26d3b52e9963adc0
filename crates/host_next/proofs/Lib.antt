pub mod StatesIn
pub mod Calls
