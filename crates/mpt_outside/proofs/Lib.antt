pub mod CountLemmas
pub mod CameLemmas
pub mod PutLemmas
pub mod PieceLemmas
