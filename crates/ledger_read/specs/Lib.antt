pub mod ImageReads
