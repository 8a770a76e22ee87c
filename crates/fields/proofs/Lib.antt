pub mod Numerals
pub mod Cut
pub mod Cutting
pub mod Shapes
pub mod Wholeness
