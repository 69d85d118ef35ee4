mod AllFacts
pub mod Columns
pub mod HeaderFacts
pub mod LeadsOn
pub mod Orders
pub mod Places
pub mod Ranges
pub mod RecordLinesFacts
pub mod ScanFacts
pub mod ShownFacts
pub mod SpotFacts
