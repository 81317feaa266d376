-- What is written, as the code holds it
pub mod Entries
-- The member of the floors, as the code writes it
pub mod FloorsText
