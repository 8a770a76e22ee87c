pub mod Found
pub mod Enough
