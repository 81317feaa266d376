-- What the steps of a line buffer do
pub mod Steps
