pub mod Numbers
pub mod Pages
pub mod Listed
pub mod Facts
pub mod Framed
pub mod Refused
