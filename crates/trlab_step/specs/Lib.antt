pub mod Answers
pub mod Next
pub mod Run
pub mod Laws
pub mod Published
