pub mod Steady
pub mod Coming
pub mod Hearing
pub mod Asking
pub mod Answering
