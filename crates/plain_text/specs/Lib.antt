pub mod Split
pub mod Number
pub mod Words
