pub mod Rows
pub mod NaschRuns
pub mod VdrRuns
pub mod RickertRuns
pub mod GivenPrograms
pub mod StandardPrograms
pub mod KnownNotes
pub mod Accepted
