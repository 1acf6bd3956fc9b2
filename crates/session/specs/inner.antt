-- What the functions that test a session hand each other: the passes over its places.
pub mod Passes
