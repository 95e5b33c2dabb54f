pub mod Holding
pub mod Cut
pub mod AnyCall
pub mod PieceLaws
