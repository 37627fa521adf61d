pub mod PatchedStrip
