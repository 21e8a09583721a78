pub mod Inside
pub mod Sents
pub mod Told
