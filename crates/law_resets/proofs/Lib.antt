pub mod MarksKept
pub mod SeenKept
pub mod FirstKept
pub mod DroppingKept
pub mod ResettingKept
pub mod ResetsKept
pub mod FabricKept
pub mod FabricWorld
