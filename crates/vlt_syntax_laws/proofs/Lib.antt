mod Wider
mod Weaker
mod Lifted
mod After
mod Choices
mod Takes
mod Exprs
mod Stmts
mod Decls
mod Back
mod Whole
mod Backs
mod Final
mod OneExpr
mod OneType
mod OneSide
mod OneStmt
pub mod OneTree
pub mod OneRefusal
mod Reasons
pub mod Refused
pub mod Anew
pub mod Decided
pub mod Within
pub mod Tokenwise
pub mod TextTokens
pub mod Ticks
pub mod Numbers
