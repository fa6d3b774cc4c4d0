pub mod Highs
pub mod OneEnd
