-- What a reader must believe of trees: parents, sides, what is folded over them, the order of neighbours, and the promises; and what is inner.
pub mod Every
pub mod Kept
pub mod Parents
pub mod Sides
pub mod Paths
pub mod Operation
pub mod Sizes
pub mod Ranges
pub mod Turns
pub mod Leaves
pub mod inner
pub mod Promises
