pub mod RandomWords
pub mod LaneLemmas
pub mod ByteLemmas
pub mod KeyBytes
pub mod FirstRounds
