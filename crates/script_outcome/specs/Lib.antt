pub mod Stream
pub mod Outcomes
pub mod Plan
pub mod ReaderAnswer
pub mod Text
