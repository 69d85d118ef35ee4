pub mod Lists
pub mod Rule
pub mod Steps
pub mod Board
pub mod Laws
