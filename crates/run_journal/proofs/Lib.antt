pub mod CanonicalText
pub mod MergeFacts
pub mod NamesBack
pub mod PlainText
pub mod ShortNames
