pub mod Grammar
pub mod Machine
pub mod Keys
pub mod Spellings
pub mod Inside
pub mod Faults
pub mod Tested
