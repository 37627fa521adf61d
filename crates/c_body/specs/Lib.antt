pub mod Views
pub mod After
