pub mod Records
pub mod Held
pub mod NodeCounts
pub mod Pairs
pub mod Merge
