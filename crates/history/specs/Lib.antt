-- What a reader must believe of demand 3: its words, and its promises.
pub mod History
pub mod Promises
