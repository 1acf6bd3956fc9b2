-- Document 01's cases that are proved.
pub mod Proved
