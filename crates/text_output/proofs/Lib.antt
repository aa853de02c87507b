mod Examples
pub mod NameLemmas
pub mod NumberLemmas
pub mod PrintingLemmas
pub mod ReportLemmas
