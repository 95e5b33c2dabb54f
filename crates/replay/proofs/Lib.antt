-- Laws that several proofs cite.
pub mod FieldLaws
pub mod CallLaws
pub mod CallExamples
pub mod SessionLaws
