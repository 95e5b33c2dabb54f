-- In the order of reading.
pub mod Computing
pub mod Rows
pub mod Strides
pub mod Many
pub mod Cases
pub mod Mouse
pub mod FromText
