pub mod UnitLaws
pub mod PatternLaws
pub mod Exact
