-- What a caller cites, and in `Inside` what a line buffer does step by step
pub mod Limits
pub mod Device
pub mod Lines
pub mod Ahead
pub mod Streams
pub mod Loan
pub mod Adaptor
pub mod Memory
pub mod Fuse
pub mod Inside
