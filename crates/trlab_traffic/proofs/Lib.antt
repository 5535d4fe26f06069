-- lanes and steps
pub mod Lanes
pub mod Steps
-- how far cars go
pub mod RoomAhead
pub mod Capacities
pub mod Moving
pub mod FreeFlow
pub mod Slower
-- cars that follow one another
pub mod Gaps
pub mod Queues
-- runs that are compared, car by car
pub mod Courses
pub mod Races
pub mod Fastest
pub mod Attractiveness
pub mod Newell
-- lane changes
pub mod SafeChanges
-- symmetries
pub mod Rotation
pub mod Homogeneity
pub mod LaneUnread
pub mod Exchanging
pub mod Influence
pub mod Pigeonhole
pub mod Determinism
-- rules that act like others
pub mod Reductions
pub mod Wolfram
-- the stationary state with v_max = 1
pub mod Chains
pub mod RingSteps
pub mod Stationary
pub mod RingMotion
pub mod RingWords
pub mod Clusters
pub mod ExactFlow
pub mod Hops
pub mod Uniqueness
-- the fundamental diagram without randomization
pub mod Regimes
pub mod EvenCars
pub mod Speeding
pub mod Heights
pub mod Leaping
pub mod Readiness
pub mod Relaxation
pub mod Waves
pub mod Classification
-- the counts of detectors
pub mod Detecting
pub mod FewCars
pub mod DetectingRuns
pub mod Passages
pub mod Rows
-- random braking
pub mod Braking
-- how soon the triangle is reached
pub mod Sooner
