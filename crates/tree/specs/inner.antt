-- What no demand rests on by its words: how a walk goes through a tree, which only laws speak of, and tests of places.
pub mod Tours
pub mod Places
