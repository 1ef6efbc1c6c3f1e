pub mod Config
pub mod Reply
pub mod Report
