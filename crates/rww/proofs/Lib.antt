-- What the program's proofs rest on.
pub mod Few
