-- What the calls of C's do to a host.
pub mod Asking
pub mod Down
pub mod Making
pub mod Reading
pub mod StrangeWords
pub mod Submitting
pub mod Told
pub mod Up
