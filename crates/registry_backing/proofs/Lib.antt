pub mod BackedLaws
