pub mod Kept
pub mod Shown
pub mod Whole
pub mod Blank
pub mod Within
