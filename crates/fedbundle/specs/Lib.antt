-- The promise of each command has a file of its own; what they share is in the first three.
-- `Inside` has the steps of the longest.
pub mod CommandRun
pub mod Counts
pub mod Canon
pub mod CurrentBundle
pub mod Distrust
pub mod Explain
pub mod Merge
pub mod Migrate
pub mod Observe
pub mod OptionValues
pub mod Polls
pub mod Pull
pub mod Report
pub mod SameSets
pub mod Serve
pub mod Stream
pub mod SaidKeys
pub mod SaidValues
pub mod Shown
pub mod ShownCommands
pub mod Inside
