-- What a reader finds, and where it goes on.
pub mod Read
