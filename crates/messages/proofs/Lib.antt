-- The laws, from a record's width up to what a caller of the public functions cites.
pub mod Widths
pub mod Parts
pub mod ByKind
pub mod Stands
pub mod Coding
pub mod Entries
pub mod Found
pub mod Answers
pub mod Logs
pub mod Stretches
pub mod Listing
pub mod Outcomes
