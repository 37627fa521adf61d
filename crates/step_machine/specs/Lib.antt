pub mod Next
pub mod Rooms
pub mod Tops
pub mod Goes
pub mod Answers
