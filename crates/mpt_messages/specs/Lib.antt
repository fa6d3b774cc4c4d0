-- All messages together, their listings, and the frames that the two ends write.
pub mod DescriptorListing
pub mod DevicePage
pub mod EventListing
pub mod Fault
pub mod FrameBytes
pub mod Function
pub mod HostFrames
pub mod IocFrames
pub mod Listing
pub mod Message
pub mod Refusal
pub mod RefusalListing
