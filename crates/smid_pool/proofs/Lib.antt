pub mod Lists
pub mod Slots
pub mod VacantBits
pub mod Marks
pub mod Taken
