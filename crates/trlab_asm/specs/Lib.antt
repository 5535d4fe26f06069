pub mod Names
pub mod Operands
pub mod OperandKinds
pub mod Reading
pub mod Assembly
pub mod Stored
pub mod Canonical
pub mod Laws
