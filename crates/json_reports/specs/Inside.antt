-- Parts of the report, as far as they are made.
pub mod ReportParts
