pub mod Cells
pub mod Gaps
pub mod Pictures
pub mod Motion
pub mod LaneChange
pub mod Spreading
pub mod Laws
pub mod Stored
