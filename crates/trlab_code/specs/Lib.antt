pub mod Program
pub mod Views
pub mod Flow
pub mod Machine
pub mod Encoding
pub mod Faults
pub mod Laws
