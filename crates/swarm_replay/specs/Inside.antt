-- Words of the steps of a replay, also for who goes over a journal otherwise; what a replay promises rests on none of
-- them.
pub mod JournalBuffer
pub mod ReplaySteps
