pub mod Addresses
pub mod Attempts
pub mod Holders
pub mod New
pub mod Places
pub mod Policy
pub mod Words
