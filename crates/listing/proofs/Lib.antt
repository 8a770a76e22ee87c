pub mod Cutting
pub mod Ruled
