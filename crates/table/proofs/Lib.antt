-- The laws of tables, by what they say.
pub mod Widths
pub mod Verdicts
pub mod FirstBytes
pub mod Turns
pub mod Stores
pub mod Tables
pub mod RoundTrip
pub mod Told
pub mod Outcomes
