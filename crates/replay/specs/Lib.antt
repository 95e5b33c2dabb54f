pub mod Fields
pub mod Calls
pub mod Scales
pub mod Sessions
