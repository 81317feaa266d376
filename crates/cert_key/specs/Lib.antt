pub mod Certificate
pub mod Der
pub mod Inside
pub mod Moment
pub mod Name
pub mod Step
