pub mod Steps
pub mod Borders
pub mod Locks
pub mod Joining
pub mod Indices
