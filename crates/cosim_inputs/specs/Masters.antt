-- The master that the text of a script makes.
use Rattle.std.specs.Prelude.{◌≡◌, ℕ, List}
use Rattle.cos_parts.specs.declared.any_master.AnyMaster.{AnyMaster}
use Rattle.cos_parts.specs.declared.any_master.AnyMaster.TheVariants.{Script}
use Rattle.cos_script.specs.Masters.{fresh_script}
use Rattle.cos_script.specs.Scripts.{script_of}
use Rattle.cosim_inputs.specs.Fresh.{steps_in}

abbrev pub IsScriptOf : ℕ → List ℕ → List ℕ → AnyMaster → Type 0
IsScriptOf ports text ram a = a ≡ Script (fresh_script (steps_in (script_of ports text)) ports ram)
