pub mod Cuts
pub mod Digits
pub mod PlainDigits
pub mod Places
