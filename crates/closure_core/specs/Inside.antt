-- What is lent and what is accepted, by numbers and flags
pub mod Nodes
pub mod Flags
pub mod Records
