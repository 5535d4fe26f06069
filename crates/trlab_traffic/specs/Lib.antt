-- terms that several laws have in common
pub mod Terms
-- any rule
pub mod Bounds
pub mod Following
pub mod Detectors
pub mod Invariance
-- free flow and jams
pub mod FlowAndJams
-- rules compared
pub mod Comparison
-- without randomization
pub mod Diagram
pub mod Waves
-- v_max = 1
pub mod LimitOne
