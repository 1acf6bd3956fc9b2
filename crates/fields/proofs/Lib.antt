-- The laws, from one digit up to what a caller of the public functions cites.
pub mod Digits
pub mod Bits
pub mod Kept
pub mod ReadBack
pub mod SameBits
pub mod TwoFields
pub mod FirstBytes
pub mod Turns
pub mod Rooms
pub mod Verdicts
pub mod Outcomes
