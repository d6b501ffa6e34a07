mod Ending
mod Making
mod Sizes
