pub mod FittingParts
mod Making
