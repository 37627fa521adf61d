pub mod SiteLaws
pub mod Pushes
pub mod CallersKept
pub mod CreationsKept
