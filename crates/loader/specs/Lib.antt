-- Loading: document 01, "Consistency rules and the desk's refusals".
pub mod Judge
pub mod Known
pub mod Ready
pub mod Verdict
pub mod Load
-- What loading comes to, in the words of document 01, and what the tables then hold.
pub mod Claim
pub mod Describes
pub mod Order
