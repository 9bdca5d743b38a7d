pub mod Sizes
pub mod Inside
pub mod Stacks
pub mod Staying
pub mod Pushing
pub mod Coming
