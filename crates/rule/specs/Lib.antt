-- What a reader must believe of one ordered pair: its rule, the schedules it is compared with, and the promises.
pub mod Pair
pub mod Schedules
pub mod Configurations
pub mod Promises
