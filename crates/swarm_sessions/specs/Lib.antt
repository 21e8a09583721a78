pub mod OnRecord
