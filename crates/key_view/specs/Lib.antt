pub mod Inside
pub mod KeyEntries
pub mod KeysText
pub mod KnownKeys
pub mod SameKeys
