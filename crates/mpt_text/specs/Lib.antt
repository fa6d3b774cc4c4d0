-- What is printed of numbers and bytes, and read of hexadecimal digits.
pub use Rattle.hex.specs.Hex
pub mod Hexadecimal
pub mod Words
