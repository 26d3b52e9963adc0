pub mod InceptionFolds
