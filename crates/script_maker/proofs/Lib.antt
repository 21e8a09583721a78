mod Drawing
mod Examples
pub mod Reading
