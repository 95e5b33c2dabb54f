pub mod ReadingLaws
pub mod Raw
