-- Words of private contracts; what the events promise rests on none of them.
pub mod Steps
