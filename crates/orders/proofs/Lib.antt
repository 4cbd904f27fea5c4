mod Tables
mod Digits
mod Meanings
mod Owns
mod Moves
mod Turns
mod Migrations
