-- What the bytes on the lanes say, and what they have to say.
pub mod DoorbellWords
pub mod Fields
pub mod Naming
pub mod Registers
pub mod Standing
pub mod Told
