-- Laws that belong to no one function.
pub mod HolderLaws
pub mod SearchLaws
pub mod PlaceLaws
pub mod ExpectedLaws
