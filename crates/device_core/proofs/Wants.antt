-- The sizes of wants.
use Rattle.cosim_model.specs.declared.values.Caps.{Caps}
use Rattle.cosim_model.specs.declared.values.Want.{Want}
use Rattle.cosim_model.specs.declared.values.Want.TheVariants.{Fetch, Store, Line}
use Rattle.cosim_model.specs.Parts.{IsWant}
use Rattle.device_core.specs.Cores.{HasSize}

pub want-sized : (needs : Caps) (w : Want) → IsWant needs w → HasSize w
want-sized needs (Fetch addr size) is = tt
want-sized needs (Store addr size bytes mask) is = (is.1, is.4)
want-sized needs (Line number level) is = tt
