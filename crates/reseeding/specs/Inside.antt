-- What work over some of the domains has done.
pub mod Domains
