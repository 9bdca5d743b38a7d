mod Told
mod Alike
mod Loops
