mod Tables
mod Leavings
mod Alike
