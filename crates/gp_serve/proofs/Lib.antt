pub mod Numbers
pub mod Lists
pub mod Asking
pub mod Handing
pub mod Leaving
