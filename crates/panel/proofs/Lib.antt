mod Texts
mod Pairs
