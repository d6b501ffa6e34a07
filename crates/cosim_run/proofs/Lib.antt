mod Lined
mod Conversing
mod Running
