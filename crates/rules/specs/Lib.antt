-- The rules of one declaration: document 01's sections "Ports, masks and bits" and "Consistency rules and the desk's
-- refusals".
pub mod Fault
pub mod State
pub mod Names
pub mod Words
pub mod Parameter
pub mod Mask
pub mod Modifiers
pub mod Register
pub mod Lists
pub mod Variable
