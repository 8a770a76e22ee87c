pub mod States
pub mod Cuts
pub mod Tokens
pub mod Lexing
pub mod Numbers
pub mod Bytes
pub mod Lines
pub mod Names
