pub mod Options
pub mod Words
pub mod Commands
pub mod ReportTexts
pub mod RoutesRead
pub mod Serves
