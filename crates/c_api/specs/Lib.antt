pub mod Refusals
pub mod Readings
pub mod Answers
pub mod Outputs
pub mod Meanings
pub mod Laws
