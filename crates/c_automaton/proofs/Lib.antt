mod After
pub mod Same
mod Exprs
mod Stmts
mod Units
mod Parts
mod Back
mod BackStmts
mod Whole
mod Steps
mod Refused
mod Decided
mod OneRefusal
pub mod Taking
