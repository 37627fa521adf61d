pub mod ValidStrip
