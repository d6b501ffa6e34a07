-- The files that a run writes at its end.
use Rattle.std.specs.Prelude.{ℕ, List, [], ◌∷◌, ◌++◌, Option, Some, None}
use Rattle.cos_config.specs.declared.config.PortConfig.{PortConfig}
use Rattle.cos_parts.specs.declared.any_device.AnyDevice.{AnyDevice}
use Rattle.cos_parts.specs.declared.any_device.AnyDevice.TheVariants.{Null, Timer, Uart, Dma, Disk}
use Rattle.outcomes.specs.Outcomes.{Written}

-- the sectors of a disk, to the file that is named for them
abbrev pub result_of : Option (List ℕ) → AnyDevice → List Written
result_of None s = []
result_of (Some name) (Disk d) = record { name = name; bytes = d.sectors } ∷ []
result_of (Some name) (Null d) = []
result_of (Some name) (Timer d) = []
result_of (Some name) (Uart d) = []
result_of (Some name) (Dma d) = []

-- port by port, as its device was left
abbrev pub results_of : List PortConfig → List AnyDevice → List Written
results_of (p ∷ ps) (d ∷ ds) = result_of p.result d ++ results_of ps ds
results_of (p ∷ ps) [] = []
results_of [] ds = []
