pub mod Fitting
pub mod Missing
pub mod Errors
