-- What the contracts on the machine of disks as code say.
pub mod Machine
pub mod Memory
pub mod Summary
pub mod Walk
