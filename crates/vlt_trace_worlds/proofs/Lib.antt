pub mod Changing
pub mod Forms
pub mod Going
pub mod Inputs
pub mod Numbers
pub mod Written
