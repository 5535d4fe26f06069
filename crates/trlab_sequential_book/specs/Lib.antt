pub mod Encoded
pub mod Sheets
pub mod Leases
pub mod Machine
pub mod Histories
pub mod Comparison
