-- What the contracts of the lines of schedules and plans say.
pub mod Causes
pub mod Commands
pub mod Left
pub mod Numbers
pub mod Statements
pub mod Words
