pub mod Current
pub mod Conflicts
pub mod Report
pub mod Explain
pub mod Observe
pub mod Inside
