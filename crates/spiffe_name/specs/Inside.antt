-- The place of a name's bytes.
pub mod NameText
