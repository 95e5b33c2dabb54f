-- The definitions that the contracts of `bits` cite.
pub mod Bits
pub mod Values
pub mod Widths
