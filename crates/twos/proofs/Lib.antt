-- The laws of two's complement, by what they say.
pub mod Signs
pub mod Misfits
pub mod Told
pub mod RoundTrip
pub mod Outcomes
