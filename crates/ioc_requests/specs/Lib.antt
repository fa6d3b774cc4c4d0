-- What the contracts of the requests say.
pub mod Asked
