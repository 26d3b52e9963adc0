pub mod IssueLaws
pub mod OwnLaws
