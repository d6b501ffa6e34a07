-- What is told of a run at its end.
use Rattle.std.specs.Prelude.{ℕ, ◌≡◌, List}
use Rattle.sha2.specs.Sha256.{sha256}
use Rattle.cosim_model.specs.declared.values.Call.{Call}
use Rattle.cos_parts.specs.declared.any_master.AnyMaster.{AnyMaster}
use Rattle.cos_parts.specs.AnyMasters.{any_stopped, any_closing, any_ram}
use Rattle.transcript.specs.declared.ending.Ending.{Ending}
use Rattle.transcript.specs.Sent.{AreSent}

-- How the master was left after so many ticks, and what these ports' UARTs sent, by the calls.
pub record IsEnding (calls : List Call) (master : AnyMaster) (after : ℕ) (uarts : List ℕ)
    (e : Ending) : Type 0 where
  pub stop : e.stop ≡ any_stopped master
  pub ticks : e.ticks ≡ after
  pub closing : e.closing ≡ any_closing master
  pub ram : e.ram ≡ sha256 (any_ram master)
  pub outs : AreSent calls uarts e.outs
