mod Funcs
mod Within
