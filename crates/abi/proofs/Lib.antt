pub mod WordLaws
pub mod SmallLaws
pub mod Telling
pub mod Meaning
pub mod LoadingLaws
pub mod ArrivingLaws
pub mod UnitLaws
