pub mod ByteFolds
