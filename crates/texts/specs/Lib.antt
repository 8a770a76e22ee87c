pub mod Faults
pub mod Lines
pub mod Forms
pub mod Outcomes
pub mod Rules
pub mod Marks
pub mod Logs
pub mod Samples
