mod Prefixes
mod Later
mod Counted
mod Orderly
mod Unused
mod Settled
mod Zipped
