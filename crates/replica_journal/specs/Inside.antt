-- How a journal is read, line by line
pub mod JournalSteps
