-- What the index keeps, and what holds of it
pub mod Count
pub mod Links
pub mod Shape
pub mod Listing
pub mod Tally
pub mod Room
pub mod Capacity
pub mod Step
pub mod Fall
pub mod Keep
