pub mod Knowledge
pub mod Tokens
