-- Readings in units: document 02, No. 10.
pub mod Unconverted
pub mod Units
pub mod Lines
pub mod Claim
