pub mod Lines
pub mod Plain
