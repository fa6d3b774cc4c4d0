-- What each message belongs to: a post to its command, a reply to its post, an event and a page to their disk, and what is told to its reply.
pub mod Acknowledged
pub mod Attached
pub mod CommandPosts
pub mod EventsTold
pub mod HandlesAimed
pub mod LastPosts
pub mod OnWire
pub mod OpeningWrites
pub mod PagesTold
pub mod RemovalsUnbind
pub mod ToldInPlace
pub mod ToldNext
