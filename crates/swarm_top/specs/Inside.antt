-- Words of private contracts; the run theorem rests on none of them.
pub mod Makes
pub mod Workers
