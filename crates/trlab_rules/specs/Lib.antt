pub mod Published
pub mod Standard
pub mod Rules
