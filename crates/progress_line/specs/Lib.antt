pub mod ProgressTexts
