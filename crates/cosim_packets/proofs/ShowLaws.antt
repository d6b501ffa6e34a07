-- How the steps of `show` make up its promise.
use Rattle.std.proofs.Common.{ℕ, List}
use Rattle.std.specs.Prelude.{Result, Ok, Err, OnOk}
use Rattle.cos_base.specs.declared.no_memory.NoMemory.{NoMemory}
use Rattle.outcomes.specs.Outcomes.{Refuses}
use Rattle.cosim_packets.specs.declared.refusals.ShowRefusal.{ShowRefusal}
use Rattle.cosim_packets.specs.declared.refusals.ShowRefusal.TheVariants.{Malformed, Truncated}
use Rattle.cosim_packets.specs.Shown.{Shown, CutOff, Refused}
use Rattle.cosim_packets.specs.Listing.{EndsAt}

pub on-ok : (P Q : Type 0) (r : Result Unit NoMemory) → (P → Q) → OnOk r P → OnOk r Q
on-ok P Q (Ok u) f is = f is
on-ok P Q (Err e) f is = tt

-- what a refused file comes to
pub refused-shown : (bytes text : List ℕ) (fault : ShowRefusal) → EndsAt bytes text fault → Shown bytes (Refuses fault text)
refused-shown bytes text (Truncated start held) ends = CutOff ends
refused-shown bytes text (Malformed fault) ends = Refused ends
