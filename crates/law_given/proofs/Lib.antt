mod HighFits
mod HighMoves
mod HighKept
pub mod HighWorld
