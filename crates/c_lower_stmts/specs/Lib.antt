pub mod Exchanges
pub mod Payloads
pub mod Blocks
