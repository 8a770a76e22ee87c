pub mod Told
pub mod Parts
pub mod Children
pub mod Placed
pub mod Stepped
pub mod Sizes
