pub mod HeadWrites
