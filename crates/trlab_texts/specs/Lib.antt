pub mod Words
pub mod Reading
pub mod Programs
pub mod Causes
pub mod Laws
