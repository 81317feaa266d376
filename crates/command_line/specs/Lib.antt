-- The options and the subcommands are in the first, the arguments that make a call in the second,
-- what its options say in the others, and what a call is refused for in `Checks`.
pub mod OptionRows
pub mod Words
pub mod OptionTexts
pub mod Addresses
pub mod Checks
pub mod Sessions
pub mod Inside
