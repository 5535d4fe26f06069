pub mod HeldLeases
pub mod Turns
pub mod Events
pub mod Desks
