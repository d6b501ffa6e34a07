-- What each call of a value in memory does to its count of calls, and whether its number is one of those that are to
-- fail. Want of memory is no call.
use Rattle.std.specs.Prelude.{◌≡◌, ◌==◌, ◌⊎◌, ℕ, ◌+◌, List, Bool, true, false, min, MatchResult}
use Rattle.std.specs.List.{list_any}
use Rattle.std.specs.declared.result.Result.{Result}
use Rattle.cos_memory.specs.declared.calls.Calls.{Calls}
use Rattle.cos_base.specs.declared.file_store.FileFault.{FileFault}
use Rattle.cos_base.specs.declared.file_store.FileFault.TheVariants as file
use Rattle.cos_base.specs.declared.networks.NetFault.{NetFault}
use Rattle.cos_base.specs.declared.networks.NetFault.TheVariants as net
use Rattle.cos_base.specs.declared.sinks.Failed.{Failed}
use Rattle.cos_base.specs.declared.links.Got.{Got}
use Rattle.cos_base.specs.declared.links.Got.TheVariants as got
use Rattle.cos_base.specs.declared.links.Put.{Put}
use Rattle.cos_base.specs.declared.links.Put.TheVariants as put
use Rattle.cos_memory.specs.declared.mem_files.MemFiles.{MemFiles}
use Rattle.cos_memory.specs.declared.mem_sink.MemSink.{MemSink}
use Rattle.cos_memory.specs.declared.mem_link.MemLink.{MemLink}
use Rattle.cos_memory.specs.declared.mem_net.MemNet.{MemNet}

-- the calls of each value in memory
abbrev pub files_calls : MemFiles → Calls
files_calls f = f.calls

abbrev pub sink_calls : MemSink → Calls
sink_calls s = s.calls

abbrev pub link_calls : {P : Type 0} {t : _} → MemLink P t → Calls
link_calls l = l.calls

abbrev pub net_calls : {P : Type 0} {t : _} → MemNet P t → Calls
net_calls n = n.calls

-- no call was made yet
abbrev pub IsUncalled : Calls → List ℕ → Type 0
IsUncalled c failing = (c.next ≡ 0) × (c.failing ≡ failing)

-- whether the next call stands in the list
abbrev pub is_listed : Calls → Bool
is_listed c = list_any (λ n. n == c.next) c.failing

-- one call was made
pub record IsCounted (old new : Calls) : Type 0 where
  pub next : new.next ≡ min (old.next + 1) 18446744073709551615
  pub failing : new.failing ≡ old.failing

-- a call didn't fail: it isn't listed
pub record Passes (old new : Calls) : Type 0 where
  pub unlisted : is_listed old ≡ false
  pub counted : IsCounted old new

-- a call failed: it is listed, or there is another cause
pub record Fails (old new : Calls) (other : Type 0) : Type 0 where
  pub cause : (is_listed old ≡ true) ⊎ other
  pub counted : IsCounted old new

-- a call of files in memory
abbrev pub FileCalls : {T : Type 0} → Calls → Calls → Type 0 → Result T FileFault → Type 0
FileCalls old new other result =
    MatchResult result (λ _. Passes old new)
    (λ e. elim e [ file.Failed ↦ Fails old new other | file.NoMemory ↦ new ≡ old ])

-- of a network in memory
abbrev pub NetCalls : {T : Type 0} → Calls → Calls → Type 0 → Result T NetFault → Type 0
NetCalls old new other result =
    MatchResult result (λ _. Passes old new)
    (λ e. elim e [ net.Failed ↦ Fails old new other | net.NoMemory ↦ new ≡ old ])

-- of a sink in memory
abbrev pub SinkCalls : Calls → Calls → Type 0 → Result Unit Failed → Type 0
SinkCalls old new other result = MatchResult result (λ _. Passes old new) (λ _. Fails old new other)

-- a read of a link in memory
abbrev pub GotCalls : Calls → Calls → Got → Type 0
GotCalls old new (got.Bytes count) = Passes old new
GotCalls old new got.End = Passes old new
GotCalls old new got.Failed = Fails old new ⊥
GotCalls old new got.NoMemory = new ≡ old

-- and a write
abbrev pub PutCalls : Calls → Calls → Put → Type 0
PutCalls old new (put.Bytes count) = Passes old new
PutCalls old new put.Failed = Fails old new ⊥
PutCalls old new put.NoMemory = new ≡ old
