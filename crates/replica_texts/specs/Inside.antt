-- What the records of the code say, and the steps of reading and writing
pub mod EntrySteps
pub mod Reading
pub mod WritingSteps
pub mod Spelling
pub mod IdList
pub mod HaveLines
pub mod Gathering
