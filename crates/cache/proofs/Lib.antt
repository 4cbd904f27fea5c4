mod Keeps
mod Lends
mod Slabs
mod States
