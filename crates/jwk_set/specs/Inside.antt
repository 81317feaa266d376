-- The place of a text's bytes.
pub mod KeptText
