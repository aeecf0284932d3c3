pub mod Facts
pub mod Conditions
pub mod Shapes
pub mod Dumps
pub mod Changes
pub mod Laws
