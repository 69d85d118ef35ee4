pub mod KnownSymbols
pub mod MadeFields
pub mod MadeLines
pub mod MadeRows
pub mod PlainFields
pub mod ReadBack
