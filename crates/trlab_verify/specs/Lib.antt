pub mod Verdict
pub mod Tables
pub mod Verified
