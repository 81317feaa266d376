pub mod Flaws
pub mod Shown
