pub mod Runs
pub mod Law
pub mod View
