pub mod NumberMaps
pub mod NumberSets
pub mod PhaseTables
pub mod RingLists
pub mod SlotTables
pub mod Turns
pub mod WaitingRequests
