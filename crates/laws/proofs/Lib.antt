pub mod Tests
pub mod Room
pub mod Number
pub mod First
pub mod Count
pub mod Views
pub mod Words
