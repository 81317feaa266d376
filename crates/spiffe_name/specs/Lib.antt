pub mod Limits
pub mod Bytes
pub mod NameError
pub mod SpiffeId
pub mod TrustDomain
pub mod Inside
