pub mod Failing
pub mod OneWay
pub mod SomeWay
