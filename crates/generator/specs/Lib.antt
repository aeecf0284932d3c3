pub mod Lcg
pub mod Generated
pub mod Scripts
pub mod Playing
