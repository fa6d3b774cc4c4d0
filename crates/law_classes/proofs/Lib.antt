mod Posts
mod Asks
pub mod FirstMoves
pub mod NoticesFirst
pub mod Leasts
pub mod Classed
pub mod MadeFirst
