-- What a refusal can be told by besides its number: places as lines and columns, names, and which bits, variables and
-- registers meet.
pub mod Places
pub mod Expected
pub mod Entries
pub mod Holders
pub mod Search
pub mod Rows
pub mod Broken
