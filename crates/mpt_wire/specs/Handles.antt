-- Device handles on the wire: bound, told, used, removed and given again.
pub mod Bindings
pub mod Leaving
pub mod Names
pub mod Pages
pub mod Plugs
pub mod Removals
pub mod Tasks
