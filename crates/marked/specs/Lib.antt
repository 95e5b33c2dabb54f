-- The marked cases, and one case besides.
pub mod Marked
pub mod BusMouse
pub mod FromText
