-- The laws of packed fields, by what they say.
pub mod Zeros
pub mod Packing
pub mod Filling
pub mod Outcomes
