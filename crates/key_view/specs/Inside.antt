-- How far the work has come.
pub mod Distrusted
pub mod KeysSoFar
pub mod Listed
pub mod MetIds
pub mod PartTexts
pub mod PublicKeys
