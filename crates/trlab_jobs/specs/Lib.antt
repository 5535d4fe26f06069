-- roads and rules in texts
pub mod Lines
pub mod RuleParts
-- job texts and check texts
pub mod Job
pub mod Check
-- sweep texts
pub mod Sweep
-- all texts
pub mod Subjects
pub mod Stored
pub mod Laws
