-- The walks: all of it is what their functions hand each other.
pub mod inner
