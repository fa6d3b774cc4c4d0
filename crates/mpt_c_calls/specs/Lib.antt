-- What the calls of C's do to a controller and a fabric.
pub mod Down
pub mod Making
pub mod Plugging
pub mod Pumping
pub mod Steps
pub mod Up
