pub mod Sizes
pub mod Outside
pub mod Going
pub mod Bodies
pub mod Arguing
