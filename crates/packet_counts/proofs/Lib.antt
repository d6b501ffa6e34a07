mod Counting
mod Written
