-- readers and writers
pub mod Device
pub mod Writers
-- outputs
pub mod Output
pub mod CheckOutput
pub mod SweepOutput
pub mod SeriesOutput
pub mod Headline
-- how engines end, and laws
pub mod Ending
pub mod Laws
