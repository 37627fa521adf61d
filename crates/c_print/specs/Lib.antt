pub mod Text
pub mod Table
pub mod Written
