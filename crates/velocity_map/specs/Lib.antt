pub mod Curve
pub mod Map
