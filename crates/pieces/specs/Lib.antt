-- Descriptions that arrive in pieces: document 02, No. 12.
pub mod Pieces
pub mod Claim
pub mod Calls
