mod Silent
mod Counting
