pub mod InceptionLaws
pub mod WellLaws
