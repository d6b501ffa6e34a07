mod Turning
mod Pulling
