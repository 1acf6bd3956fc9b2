-- What the functions that serve a session hand each other: the pairs after a request, a request as an act, and a list's turns.
pub mod Afters
pub mod Acts
pub mod Turns
pub mod Rounds
