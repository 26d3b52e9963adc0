pub mod HeadBytes
