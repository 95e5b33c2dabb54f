-- Readings in units at the station: document 02, No. 10.
pub mod Readings
pub mod Claim
