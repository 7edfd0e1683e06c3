pub mod Servings
pub mod Runs
