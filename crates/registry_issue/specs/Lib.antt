pub mod IssueFolds
pub mod IssueParts
