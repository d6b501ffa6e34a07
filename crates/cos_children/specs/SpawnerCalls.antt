-- What each call of a spawner in memory does to its count of calls. Want of memory is no call.
use Rattle.std.specs.Prelude.{◌≡◌, ℕ, List, MatchResult}
use Rattle.std.specs.declared.result.Result.{Result}
use Rattle.cos_memory.specs.declared.calls.Calls.{Calls}
use Rattle.cos_memory.specs.CallNumbers.{Passes, Fails}
use Rattle.cos_children.specs.declared.spawners.SpawnFault.{SpawnFault}
use Rattle.cos_children.specs.declared.spawners.SpawnFault.TheVariants as spawn
use Rattle.cos_children.specs.declared.mem_spawner.MemSpawner.{MemSpawner}

-- the calls of a spawner in memory, and the statuses that it was made with
abbrev pub spawner_calls : MemSpawner → Calls
spawner_calls s = s.calls

abbrev pub spawner_statuses : MemSpawner → List ℕ
spawner_statuses s = s.statuses

-- a call of a spawner in memory
abbrev pub SpawnCalls : {T : Type 0} → Calls → Calls → Type 0 → Result T SpawnFault → Type 0
SpawnCalls old new other result =
    MatchResult result (λ _. Passes old new)
    (λ e. elim e [ spawn.Failed ↦ Fails old new other | spawn.NoMemory ↦ new ≡ old ])
