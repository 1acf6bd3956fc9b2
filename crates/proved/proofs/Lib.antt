-- The proof of the cases marked P.
pub mod Proved
