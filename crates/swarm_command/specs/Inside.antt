-- Words of private contracts.
pub mod Clap
