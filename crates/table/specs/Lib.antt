pub mod Acting
pub mod Lines
pub mod Running
