-- Words of private contracts.
pub mod Branches
pub mod ClassLoads
pub mod ClassTable
pub mod ClassSearch
pub mod Classes
pub mod Known
pub mod KnownNodes
pub mod KnownRefusals
pub mod Nearing
pub mod Placing
pub mod Ranks
pub mod Totals
pub mod Touching
