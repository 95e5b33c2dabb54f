-- Laws that several proofs cite.
pub mod WordLaws
pub mod NumberLaws
pub mod PatternLaws
