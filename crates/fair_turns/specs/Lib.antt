pub mod Arrivals
pub mod GivingWay
pub mod Room
pub mod Turns
