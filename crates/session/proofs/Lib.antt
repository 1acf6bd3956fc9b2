-- The laws of sessions, by what they say.
pub mod Limits
pub mod AllZero
pub mod AllEntries
pub mod Indices
pub mod Keeping
pub mod Ordering
pub mod Typing
pub mod Soundly
pub mod InPasses
pub mod Starts
pub mod Backs
pub mod Told
pub mod Outcomes
