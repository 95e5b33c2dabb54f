pub mod Words
pub mod Told
pub mod Loading
pub mod Arriving
pub mod InUnits
