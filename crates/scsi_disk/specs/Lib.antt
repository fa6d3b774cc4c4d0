-- What the disks' contracts say.
pub mod Operation
pub mod Disk
pub mod Command
pub mod Room
pub mod Performed
pub mod Laws
