-- What the exports promise to C.
pub mod Answers
pub mod Holding
pub mod OnHandles
