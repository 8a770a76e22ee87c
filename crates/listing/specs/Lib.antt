pub mod Inputs
pub mod Faults
pub mod Rulings
pub mod Listings
pub mod Laws
