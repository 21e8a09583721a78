pub mod KnownSurvey
pub mod Marks
pub mod PlaceMarks
pub mod Replacing
pub mod StalePlaces
pub mod Surveys
