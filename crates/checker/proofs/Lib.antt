pub mod Same
pub mod Alike
pub mod Coded
pub mod OwnForms
pub mod Judged
pub mod Nodes
pub mod Late
pub mod Answered
