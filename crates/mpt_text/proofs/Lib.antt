pub mod DigitTable
pub mod Digits
pub mod LowBytes
