pub mod Escapes
pub mod Names
pub mod Numbers
pub mod Cuts
pub mod Guesses
