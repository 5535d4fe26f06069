pub mod Known
pub mod Endings
pub mod SomeHead
pub mod Refusals
pub mod PlainTokens
