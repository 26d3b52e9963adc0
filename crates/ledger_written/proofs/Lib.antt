pub mod ImageWrites
pub mod WrittenBytes
