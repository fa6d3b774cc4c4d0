pub mod OfCases
