pub mod Knowledge
pub mod Drawers
pub mod Segments
pub mod Laws
pub mod Answered
pub mod KeyedLocks
pub mod Workers
