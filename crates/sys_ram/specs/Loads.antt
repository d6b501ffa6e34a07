-- What loading an image into RAM answers.
use Rattle.std.specs.Prelude.{◌≡◌, ℕ, ◌<◌, ◌≤◌, List, length, Result, Ok, Err}
use Rattle.cos_base.specs.Octets.{overwritten}
use Rattle.sys_ram.specs.declared.fault.ImageFault.{ImageFault}
use Rattle.sys_ram.specs.declared.fault.ImageFault.TheVariants.{Empty, TooLarge, NoMemory}

-- The image stands at the front of RAM, and what follows it is as before; or RAM is as before, and the fault says why.
abbrev pub Loads : List ℕ → List ℕ → List ℕ → Result Unit ImageFault → Type 0
Loads old new image (Ok done) = (0 < length image) × (length image ≤ length old) × (new ≡ overwritten old 0 image)
Loads old new image (Err Empty) = (length image ≡ 0) × (new ≡ old)
Loads old new image (Err (TooLarge size got)) = (length old < length image) × (size ≡ length old) × (got ≡ length image)
    × (new ≡ old)
Loads old new image (Err NoMemory) = new ≡ old
