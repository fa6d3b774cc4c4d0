-- What the contracts of the program say.
pub mod Kind
pub mod Input
pub mod Answer
pub mod Run
