pub mod ConfigText
pub mod ConfigJson
