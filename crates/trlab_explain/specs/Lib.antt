pub mod Repairs
pub mod Explanations
pub mod Laws
