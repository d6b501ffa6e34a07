mod Unserved
mod Finding
mod Finishing
