mod Judged
mod Names
mod Order
mod Programs
mod Reading
mod Lookups
mod Unrefused
mod Readable
mod Parts
mod Printed
pub mod OfSyntaxLaws
pub mod OfPrinterLaws
