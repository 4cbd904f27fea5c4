mod Steady
mod Rows
mod Goes
mod Alls
mod Owed
mod Piles
