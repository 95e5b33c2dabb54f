-- The lines that the programs write.
pub mod Lines
