pub mod Offers
pub mod Writings
