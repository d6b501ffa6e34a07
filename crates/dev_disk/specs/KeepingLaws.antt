-- What becomes of the sectors: only a fetch that was served with code 0 changes them, and a bad sector never changes.
use Rattle.std.specs.Prelude.{◌≡◌, ◌≢◌, ℕ, zero, suc, ◌+◌, ◌-◌, ◌*◌, ◌/◌, ◌<◌, ◌≤◌, ◌⊎◌, Bool, true, false, min, Option, Some, None, List, ◌++◌, length, take, drop, refl}
use Rattle.std.proofs.Common.{arith, ap, sym, inl, inr, ⊎_elim, ◌∙◌, append_assoc, length-append, length-take, length-drop}
use Rattle.std.proofs.lemmas.List.{drop-append-le, take-append-le, take-append-drop}
use Rattle.std.proofs.lemmas.Slice.{drop-append-drop}
use Rattle.std.proofs.lemmas.Bool.Decides.{leb_tells}
use Rattle.cosim_model.specs.declared.values.Reply.{Reply}
use Rattle.cosim_model.specs.declared.values.Want.TheVariants as want
use Rattle.cos_base.specs.Octets.{overwritten}
use Rattle.dev_line.specs.WireLaws.{wanted_before-quiet}
use Rattle.dev_disk.specs.Works.{place_of, sector_at, disk_place, is_bad, sector_of, taken_in, IsChunk, IsRunning}
use Rattle.dev_disk.specs.Disks.{DiskRegisters, is_busy, present, register_written, unless_busy, can_start, controlled, started, acted, transfer, chunk_want, ended, continued, transferred, worked, fed, disk_model}
use Rattle.cosim_model.specs.declared.values.Answer.{Answer}
use Rattle.dev_line.specs.declared.request.Request.{Request}
use Rattle.dev_line.specs.declared.request.Request.TheVariants.{Read, Write, Refused}
use Rattle.dev_disk.specs.declared.register.Register.{Register}
use Rattle.dev_disk.specs.declared.register.Register.TheVariants.{Sector, Count, Address, Control, Status, Size}
use Rattle.dev_disk.specs.declared.engine.Engine.{Engine}
use Rattle.dev_disk.specs.declared.engine.Engine.TheVariants.{Idle, Busy}

-- A fetch was served with code 0, and the sectors have its bytes from a place on.
pub record TakesChunk (s : DiskRegisters) (reply : Reply) (sectors : List ℕ) : Type 0 where
  pub served : reply.code ≡ 0
  pub address : ℕ
  pub fetched : disk_model.want s ≡ Some (want.Fetch address 64)
  pub place : ℕ
  pub sectors_are : sectors ≡ overwritten s.sectors place reply.bytes

abbrev pub ChangesByFetch : DiskRegisters → Reply → List ℕ → Type 0
ChangesByFetch s reply sectors = (sectors ≡ s.sectors) ⊎ TakesChunk s reply sectors

abbrev pub KeepsBad : DiskRegisters → List ℕ → Type 0
KeepsBad s sectors = (sector : ℕ) → is_bad s.bad sector ≡ true → sector_of sectors sector ≡ sector_of s.sectors sector

continued-sectors : (s : DiskRegisters) (after : ℕ) (bad : Bool) → (continued s after bad).sectors ≡ s.sectors
continued-sectors s after true = refl
continued-sectors s after false = refl

transferred-sectors : (s : DiskRegisters) (after : ℕ) → (transferred s after).sectors ≡ s.sectors
transferred-sectors s zero = refl
transferred-sectors s (suc after) = continued-sectors s after _

fetched-is : (s : DiskRegisters) (after : ℕ) → s.wire.pending ≡ false → s.engine ≡ Busy after → s.to_disk ≡ true → disk_model.want s ≡ Some (want.Fetch (min s.address 4294967295 + place_of s.count after) 64)
fetched-is s after p e d = wanted_before-quiet s.wire (chunk_want s s.engine) p ∙ ap (chunk_want s) e ∙ ap (λ to_disk. Some (transfer s after to_disk)) d

worked-changes : (s : DiskRegisters) (reply : Reply) (engine : Engine) (code : ℕ) → s.wire.pending ≡ false → s.engine ≡ engine → reply.code ≡ code → ChangesByFetch s reply (worked s engine code reply.bytes).sectors
worked-changes s reply Idle code p e c = inl refl
worked-changes s reply (Busy after) (suc code) p e c = inl refl
worked-changes s reply (Busy after) zero p e c = go s.to_disk refl
  where
    at : ℕ
    at = disk_place s.sector s.count after

    same : (worked s (Busy after) zero reply.bytes).sectors ≡ taken_in s.to_disk s.sectors (disk_place s.sector s.count after) reply.bytes
    same = transferred-sectors (record s { sectors = taken_in s.to_disk s.sectors (disk_place s.sector s.count after) reply.bytes }) (min after 1023)

    go : (to_disk : Bool) → s.to_disk ≡ to_disk → ChangesByFetch s reply (worked s (Busy after) zero reply.bytes).sectors
    go true d = inr (record {
      served = c;
      address = min s.address 4294967295 + place_of s.count after;
      fetched = fetched-is s after p e d;
      place = disk_place s.sector s.count after;
      sectors_are = same ∙ ap (λ to_disk. taken_in to_disk s.sectors (disk_place s.sector s.count after) reply.bytes) d;
    })
    go false d = inl (same ∙ ap (λ to_disk. taken_in to_disk s.sectors (disk_place s.sector s.count after) reply.bytes) d)

pub fed-changes : (s : DiskRegisters) (reply : Reply) → ChangesByFetch s reply (fed s reply s.wire.pending).sectors
fed-changes s reply = go s.wire.pending refl
  where
    go : (pending : Bool) → s.wire.pending ≡ pending → ChangesByFetch s reply (fed s reply pending).sectors
    go true p = inl refl
    go false p = worked-changes s reply s.engine reply.code p refl refl

-- 512 bytes before the place, and 512 bytes after the new ones, are as they were.

front-same : (k : ℕ) (front xs ys : List ℕ) → k + 512 ≤ length front → take 512 (drop k (front ++ xs)) ≡ take 512 (drop k (front ++ ys))
front-same k front xs ys within =
    let long : 512 ≤ length (drop k front) = (let n = length-drop k front in omega arith) in
    ap (take 512) (drop-append-le k front xs (omega arith)) ∙ take-append-le 512 (drop k front) xs long
    ∙ sym (ap (take 512) (drop-append-le k front ys (omega arith)) ∙ take-append-le 512 (drop k front) ys long)

overwritten-before : (xs ys : List ℕ) (at k : ℕ) → k + 512 ≤ at → at ≤ length xs → take 512 (drop k (overwritten xs at ys)) ≡ take 512 (drop k xs)
overwritten-before xs ys at k within short =
    let long : k + 512 ≤ length (take at xs) = (let n = length-take at xs in omega arith) in
    ap (λ zs. take 512 (drop k zs)) (append_assoc (take at xs) ys (drop (at + length ys) xs))
    ∙ front-same k (take at xs) (ys ++ drop (at + length ys) xs) (drop at xs) long
    ∙ ap (λ zs. take 512 (drop k zs)) (take-append-drop at xs)

overwritten-after : (xs ys : List ℕ) (at k : ℕ) → at + length ys ≤ k → at ≤ length xs → drop k (overwritten xs at ys) ≡ drop k xs
overwritten-after xs ys at k past short =
    let front : length (take at xs ++ ys) ≡ at + length ys = (let n = length-take at xs in let m = length-append (take at xs) ys in omega arith) in
    drop-append-drop (at + length ys) xs (take at xs ++ ys) k past front

-- Another sector lies before the sector of a chunk, or after it.
sides : (sector place chunk other : ℕ) → place ≡ 64 * chunk → other ≢ sector + place / 512 → (512 * other + 512 ≤ 512 * sector + place) ⊎ (512 * sector + place + 64 ≤ 512 * other)
sides sector place chunk other at_chunk differs =
    ⊎_elim (λ before. inl before.1) (λ past. inr (let later : 512 * sector + place < 512 * other + 512 = past.1 in omega arith)) (leb_tells (512 * other + 512) (512 * sector + place))

-- The chunk that is written lies in one sector, and every other sector stays.
chunk-apart : (sector count after : ℕ) (sectors bytes : List ℕ) (other : ℕ) → IsChunk sector count after sectors → length bytes ≡ 64 → other ≢ sector_at sector count after → sector_of (overwritten sectors (disk_place sector count after) bytes) other ≡ sector_of sectors other
chunk-apart sector count after sectors bytes other is long apart = go (place_of count after) (8 * count - 1 - after) (let most = is.most in omega arith) (let few = is.few in let some = is.some in omega arith) apart
  where
    go : (place chunk : ℕ) → place ≡ 64 * chunk → chunk + 1 ≤ 8 * count → other ≢ sector + place / 512 → sector_of (overwritten sectors (512 * sector + place) bytes) other ≡ sector_of sectors other
    go place chunk at_chunk within differs =
        let on_disk = is.within in
        let short : 512 * sector + place ≤ length sectors = omega arith in
        ⊎_elim
        (λ (before : 512 * other + 512 ≤ 512 * sector + place). overwritten-before sectors bytes (512 * sector + place) (512 * other) before short)
        (λ (past : 512 * sector + place + 64 ≤ 512 * other). ap (take 512) (overwritten-after sectors bytes (512 * sector + place) (512 * other) (omega arith) short))
        (sides sector place chunk other at_chunk differs)

worked-bad : (s : DiskRegisters) (engine : Engine) (code : ℕ) (bytes : List ℕ) → length bytes ≡ 64 → IsRunning s.sector s.count engine s.sectors s.bad → KeepsBad s (worked s engine code bytes).sectors
worked-bad s Idle code bytes long runs other bad = refl
worked-bad s (Busy after) (suc code) bytes long runs other bad = refl
worked-bad s (Busy after) zero bytes long runs other bad =
    ap (λ sectors. sector_of sectors other) (transferred-sectors (record s { sectors = taken_in s.to_disk s.sectors (disk_place s.sector s.count after) bytes }) (min after 1023))
    ∙ go s.to_disk
  where
    apart : other ≡ sector_at s.sector s.count after → ⊥
    apart e = (let same = ap (is_bad s.bad) e in let fine = runs.1 in cc)

    go : (to_disk : Bool) → sector_of (taken_in to_disk s.sectors (disk_place s.sector s.count after) bytes) other ≡ sector_of s.sectors other
    go true = chunk-apart s.sector s.count after s.sectors bytes other runs.0 long apart
    go false = refl

pub fed-bad : (s : DiskRegisters) (reply : Reply) → length reply.bytes ≡ 64 → IsRunning s.sector s.count s.engine s.sectors s.bad → KeepsBad s (fed s reply s.wire.pending).sectors
fed-bad s reply long runs = go s.wire.pending
  where
    go : (pending : Bool) → KeepsBad s (fed s reply pending).sectors
    go true other bad = refl
    go false other bad = worked-bad s s.engine reply.code reply.bytes long runs other bad

-- An access changes no sector.

present-sectors : (s : DiskRegisters) (after : ℕ) (bad : Bool) → (present s after bad).sectors ≡ s.sectors
present-sectors s after true = refl
present-sectors s after false = refl

started-sectors : (s : DiskRegisters) (to_disk enabled can : Bool) → (started s to_disk enabled can).0.sectors ≡ s.sectors
started-sectors s to_disk enabled true = present-sectors (record s { to_disk = to_disk; enabled = enabled; done = false; error = false }) (8 * s.count - 1) (is_bad s.bad s.sector)
started-sectors s to_disk enabled false = refl

controlled-sectors : (s : DiskRegisters) (starts to_disk enabled : Bool) → (controlled s starts to_disk enabled).0.sectors ≡ s.sectors
controlled-sectors s true to_disk enabled = started-sectors s to_disk enabled (can_start s)
controlled-sectors s false to_disk enabled = refl

unless_busy-sectors : (s : DiskRegisters) (written : DiskRegisters × Answer) (busy : Bool) → written.0.sectors ≡ s.sectors → (unless_busy s written busy).0.sectors ≡ s.sectors
unless_busy-sectors s written true e = refl
unless_busy-sectors s written false e = e

written-sectors : (s : DiskRegisters) (register : Register) (value : ℕ) → (register_written s register value).0.sectors ≡ s.sectors
written-sectors s Sector value = unless_busy-sectors s _ (is_busy s.engine) refl
written-sectors s Count value = unless_busy-sectors s _ (is_busy s.engine) refl
written-sectors s Address value = unless_busy-sectors s _ (is_busy s.engine) refl
written-sectors s Control value = unless_busy-sectors s _ (is_busy s.engine) (controlled-sectors s _ _ _)
written-sectors s Status value = refl
written-sectors s Size value = refl

pub acted-sectors : (s : DiskRegisters) (request : Request Register) → (acted s request).0.sectors ≡ s.sectors
acted-sectors s (Read register) = refl
acted-sectors s (Write register value) = written-sectors s register value
acted-sectors s (Refused code) = refl
