-- Laws that belong to no one function.
pub mod WordLaws
pub mod NameLaws
pub mod MaskLaws
pub mod OffsetLaws
pub mod ListLaws
pub mod FrameLaws
pub mod VariableLaws
pub mod FaultLaws
pub mod JudgingLaws
pub mod WrittenLaws
pub mod AppendLaws
pub mod ParameterShape
pub mod RegisterShape
pub mod Growing
pub mod PastLaws
pub mod NeedLaws
