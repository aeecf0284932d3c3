pub mod Command
pub mod Entries
pub mod Text
pub mod Words
pub mod Unique
pub mod VoiceAfter
pub mod Message
