-- Devices and masters as functions of what they hold, and the laws that they keep.
use Rattle.std.specs.Prelude.{◌≡◌, ℕ, ◌^◌, ◌<◌, ◌≤◌, ◌⊎◌, Bool, true, false, nat_le, ◌&&◌, List, length, take, All, Option, Some, None}
use Rattle.cosim_model.specs.declared.values.Want.TheVariants.{Fetch, Store, Line}
use Rattle.cosim_model.specs.declared.values.Access.{Access}
use Rattle.cosim_model.specs.declared.values.Answer.{Answer}
use Rattle.cosim_model.specs.declared.values.Bus.{Bus}
use Rattle.cosim_model.specs.declared.values.Caps.{Caps}
use Rattle.cosim_model.specs.declared.values.Closing.{Closing}
use Rattle.cosim_model.specs.declared.values.Reply.{Reply}
use Rattle.cosim_model.specs.declared.values.Want.{Want}
use Rattle.cosim_model.specs.Values.{bits_of, all_on, padded, no_bytes}

-- The calls of a device whose state is an S.
pub record DeviceModel (S : Type 0) : Type 0 where
  -- an access at a tick
  pub access : S → ℕ → Access → S × Answer
  -- time passes up to a tick
  pub advance : S → ℕ → S
  pub want : S → Option Want
  -- the want is served
  pub feed : S → Reply → S
  -- the tick that it was brought to last
  pub seen : S → ℕ
  -- when the present want became the present one
  pub due : S → ℕ
  -- a bound on the wants that can follow each other without an access or an advance
  pub left : S → ℕ
  -- the capabilities without which it can't work
  pub needs : S → Caps

-- The calls of a master whose state is an M.
pub record MasterModel (M : Type 0) : Type 0 where
  -- one unit: the access that it issues, or nothing where it is a local one
  pub issue : M → M × Option Bus
  -- the issued unit ends
  pub finish : M → Answer → M
  -- so many bytes from an address on, and a code
  pub read : M → ℕ → ℕ → ℕ × List ℕ
  -- bytes from an address on, and which of them are enabled
  pub write : M → ℕ → List ℕ → List Bool → M × ℕ
  -- a level on an interrupt line
  pub line : M → ℕ → Bool → M
  -- how it stopped, where it has
  pub stopped : M → Option ℕ
  pub closing : M → Closing
  -- the access that is issued and unfinished
  pub issued : M → Option Bus
  -- above every port that it may name
  pub reach : M → ℕ
  -- true only where it never disables a lane
  pub full : M → Bool

-- There are 32 interrupt lines.
abbrev pub lined : {M : Type 0} → MasterModel M → M → ℕ → Bool → Bool → M
lined k m number level true = k.line m number level
lined k m number level false = m

-- The master serves a want.
abbrev pub served : {M : Type 0} → MasterModel M → M → Want → M × Reply
served k m (Fetch addr size) =
    (m, record { code = (k.read m addr size).0; size = size; bytes = padded (k.read m addr size).1 })
served k m (Store addr size bytes mask) = (
  (k.write m addr (take size bytes) (bits_of mask size)).0,
  record { code = (k.write m addr (take size bytes) (bits_of mask size)).1; size = 0; bytes = no_bytes },
)
served k m (Line number level) =
    (lined k m number level (nat_le number 31), record { code = 0; size = 0; bytes = no_bytes })

-- The laws. They hold for every state of the type, also for one that is never reached: a model is total.

abbrev pub IsByte : ℕ → Type 0
IsByte b = b < 256

-- A want has 1 to 64 bytes, no mask bit and no byte but 0 from its size on, and leaves a byte disabled only where the
-- device needs capabilities 1 and 2. Its numbers fit their types.
abbrev pub IsWant : Caps → Want → Type 0
IsWant needs (Fetch addr size) = (0 < size) × (size ≤ 64) × (addr < 2 ^ 64)
IsWant needs (Store addr size bytes mask) = (0 < size) × (size ≤ 64) × (addr < 2 ^ 64) × (mask < 2 ^ size)
    × (length bytes ≡ 64) × (bytes ≡ padded (take size bytes)) × All IsByte bytes
    × ((all_on (bits_of mask size) ≡ true) ⊎ (needs.base && needs.enables ≡ true))
IsWant needs (Line number level) = number < 2 ^ 32

abbrev pub IsSize : ℕ → Type 0
IsSize n = (n ≡ 1) ⊎ (n ≡ 2) ⊎ (n ≡ 4) ⊎ (n ≡ 8)

-- An access has 1, 2, 4 or 8 bytes, and no bit of value or lanes past them; a posted one is a write; a read's value is
-- 0.
pub record IsAccess (a : Access) : Type 0 where
  pub size : IsSize a.size
  pub addr : a.addr < 2 ^ 64
  pub value : a.value < 256 ^ a.size
  pub lanes : a.lanes < 2 ^ a.size
  pub posted : a.posted ≡ true → a.write ≡ true
  pub read : a.write ≡ false → a.value ≡ 0

-- `access` and `advance` are called at ticks from `seen` on.
pub record IsDevice {S : Type 0} (d : DeviceModel S) : Type 0 where
  -- a want that is there stays, with its due time
  pub access_keeps : (s : S) (t : ℕ) (a : Access) (w : Want) → d.seen s ≤ t → d.want s ≡ Some w
      → (d.want (d.access s t a).0 ≡ Some w) × (d.due (d.access s t a).0 ≡ d.due s)
  pub advance_keeps : (s : S) (t : ℕ) (w : Want) → d.seen s ≤ t → d.want s ≡ Some w → (d.want (d.advance s t) ≡ Some w)
      × (d.due (d.advance s t) ≡ d.due s)
  -- `feed` lowers `left`, which is 0 exactly where there is no want, and is at most 4,096
  pub feed_left : (s : S) (r : Reply) (w : Want) → d.want s ≡ Some w → d.left (d.feed s r) < d.left s
  pub left_none : (s : S) → d.left s ≡ 0 → d.want s ≡ None
  pub none_left : (s : S) → d.want s ≡ None → d.left s ≡ 0
  pub left_most : (s : S) → d.left s ≤ 4096
  -- `access` and `advance` to t make `seen` t, and `feed` keeps it
  pub access_seen : (s : S) (t : ℕ) (a : Access) → d.seen s ≤ t → d.seen (d.access s t a).0 ≡ t
  pub advance_seen : (s : S) (t : ℕ) → d.seen s ≤ t → d.seen (d.advance s t) ≡ t
  pub feed_seen : (s : S) (r : Reply) → d.seen (d.feed s r) ≡ d.seen s
  -- `due` never falls and is at most `seen`
  pub due_seen : (s : S) → d.due s ≤ d.seen s
  pub access_due : (s : S) (t : ℕ) (a : Access) → d.seen s ≤ t → d.due s ≤ d.due (d.access s t a).0
  pub advance_due : (s : S) (t : ℕ) → d.seen s ≤ t → d.due s ≤ d.due (d.advance s t)
  pub feed_due : (s : S) (r : Reply) → d.due s ≤ d.due (d.feed s r)
  -- `needs` never changes
  pub access_needs : (s : S) (t : ℕ) (a : Access) → d.needs (d.access s t a).0 ≡ d.needs s
  pub advance_needs : (s : S) (t : ℕ) → d.needs (d.advance s t) ≡ d.needs s
  pub feed_needs : (s : S) (r : Reply) → d.needs (d.feed s r) ≡ d.needs s
  pub want_is : (s : S) (w : Want) → d.want s ≡ Some w → IsWant (d.needs s) w

-- That `write` is told of each byte whether it is enabled, and not by which words, is in its type.
pub record IsMaster {M : Type 0} (k : MasterModel M) : Type 0 where
  -- an access that is issued is one, within reach, and with every lane where `full` holds
  pub issue_access : (m : M) (b : Bus) → (k.issue m).1 ≡ Some b → (b.port < k.reach m) × IsAccess b.access
      × (k.issued (k.issue m).0 ≡ Some b) × (k.full m ≡ true → all_on (bits_of b.access.lanes b.access.size) ≡ true)
  pub issue_local : (m : M) → (k.issue m).1 ≡ None → k.issued (k.issue m).0 ≡ None
  pub finish_issued : (m : M) (x : Answer) → k.issued (k.finish m x) ≡ None
  -- `reach` never grows, and `full` is kept
  pub issue_reach : (m : M) → k.reach (k.issue m).0 ≤ k.reach m
  pub issue_full : (m : M) → k.full m ≡ true → k.full (k.issue m).0 ≡ true
  pub finish_reach : (m : M) (x : Answer) → k.reach (k.finish m x) ≤ k.reach m
  pub finish_full : (m : M) (x : Answer) → k.full m ≡ true → k.full (k.finish m x) ≡ true
  -- the bytes asked for and code 0, or as many zeros and code 2
  pub read_is : (m : M) (addr n : ℕ) → (length (k.read m addr n).1 ≡ n) × All IsByte (k.read m addr n).1
      × (((k.read m addr n).0 ≡ 0) ⊎ (((k.read m addr n).0 ≡ 2) × All (λ b. b ≡ 0) (k.read m addr n).1))
  pub write_is : (m : M) (addr : ℕ) (bytes : List ℕ) (ons : List Bool)
      → ((k.write m addr bytes ons).1 ≡ 0) ⊎ ((k.write m addr bytes ons).1 ≡ 2)
  -- `write` and `line` keep `stopped` and what is issued
  pub write_keeps : (m : M) (addr : ℕ) (bytes : List ℕ) (ons : List Bool)
      → (k.stopped (k.write m addr bytes ons).0 ≡ k.stopped m) × (k.issued (k.write m addr bytes ons).0 ≡ k.issued m)
      × (k.reach (k.write m addr bytes ons).0 ≤ k.reach m)
      × (k.full m ≡ true → k.full (k.write m addr bytes ons).0 ≡ true)
  pub line_keeps : (m : M) (number : ℕ) (level : Bool) → (k.stopped (k.line m number level) ≡ k.stopped m)
      × (k.issued (k.line m number level) ≡ k.issued m) × (k.reach (k.line m number level) ≤ k.reach m)
      × (k.full m ≡ true → k.full (k.line m number level) ≡ true)
