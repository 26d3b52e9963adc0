pub mod Number
pub mod Room
pub mod First
pub mod Count
pub mod Words
