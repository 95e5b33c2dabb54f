pub mod BitLaws
pub mod MaskLaws
pub mod ValueLaws
pub mod WidthLaws
pub mod RangeLaws
pub mod Signed
