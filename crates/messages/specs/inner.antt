-- What functions only hand each other: a message's kind, and its record as it is made and found.
pub mod Kinds
pub mod Found
