pub mod Strict
mod Books
mod BooksKept
pub mod Recorded
