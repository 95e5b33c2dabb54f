-- Laws that belong to no one function.
pub mod LoadSteps
pub mod PieceCounts
pub mod ReadKeeps
pub mod ShapeLaws
pub mod KnownLaws
pub mod ReadyLaws
pub mod VariableReady
pub mod NextSteps
pub mod CountLaws
pub mod LoadLaws
pub mod GrowingVariable
pub mod ReadGrowing
-- What is accepted can be opened.
pub mod Accepted
-- The answer of loading, exactly.
pub mod FirstLaws
pub mod Numbers
pub mod Breaking
pub mod Tallied
pub mod Exactly
pub mod ByNumber
-- What is accepted is described.
pub mod MoreLaws
pub mod Entries
pub mod GrowsLaws
pub mod Describing
-- The lowest number first.
pub mod Placed
pub mod Lowest
