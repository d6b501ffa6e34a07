-- What holds of the parts of a run that is over.
use Rattle.std.proofs.Common.{◌≡◌, IfOk, sym, subst}
use Rattle.std.specs.declared.result.Result.{Result}
use Rattle.std.specs.declared.result.Result.TheVariants.{Ok, Err}
use Rattle.cos_api.specs.declared.calls.Calls.{Calls}
use Rattle.cos_base.specs.declared.no_memory.NoMemory.{NoMemory}
use Rattle.transcript.specs.declared.ending.Ending.{Ending}
use Rattle.cosim_direct.specs.declared.finished.Finished.{Finished}

-- What holds of the calls and the end that a run is made of holds of the run.
pub finished-of : (P : Calls → Ending → Type 0) (r : Result Finished NoMemory) (calls : Calls) (e : Ending)
    → IfOk r (λ f. f.calls ≡ calls) → IfOk r (λ f. f.end ≡ e) → P calls e → IfOk r (λ f. P f.calls f.end)
finished-of P (Ok f) calls e same ends is = subst (λ x. P x f.end) (sym same) (subst (λ x. P calls x) (sym ends) is)
finished-of P (Err fault) calls e same ends is = tt
