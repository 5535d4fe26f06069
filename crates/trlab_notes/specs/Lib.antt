pub mod Notes
pub mod Transfer
pub mod Reasons
pub mod Rows
pub mod Stored
