-- Each call of the direct machine has a line.
use Rattle.std.specs.Prelude.{if◌then◌else◌, All, is_some, slice_get, IsSome}
use Rattle.std.proofs.Common.{ℕ, ◌≡◌, ◌+◌, ◌<◌, ◌≤◌, zero, suc, Bool, true, false, List, [], ◌∷◌, ◌++◌, length, map, Option, Some, None, refl, arith}
use Rattle.std.proofs.lemmas.List.Elements.{All-append, All-nil}
use Rattle.cosim_model.specs.declared.values.Bus.{Bus}
use Rattle.cosim_model.specs.declared.values.Caps.{Caps}
use Rattle.cosim_model.specs.declared.values.Plan.{Plan}
use Rattle.cosim_model.specs.declared.values.Want.{Want}
use Rattle.cosim_model.specs.declared.values.Want.TheVariants.{Fetch, Store, Line}
use Rattle.cosim_model.specs.Order.{least, at_quantum}
use Rattle.cosim_model.specs.Parts.{DeviceModel, MasterModel, IsDevice, IsWant, served}
use Rattle.cosim_model.specs.Direct.{Direct, direct_start, access_device, unit_of, unit, want_time, serve_want, serve_device, serve_next, serve_one, serve_all, all_left, advance_all, mark, boundary, boundary_if, met_quantum, direct_from, direct}
use Rattle.transcript.specs.CallLines.{HasLine, IsShort}

all-one : {X : Type 0} (P : X → Type 0) (y : X) → P y → All P (y ∷ [])
all-one P y is zero d small = is
all-one P y is (suc k) d small = absurd (omega (arith, small))

module _ {M S : Type 0} (k : MasterModel M) (d : DeviceModel S) (plan : Plan) (lawful : IsDevice d) where
  abbrev pub HaveLines : Direct M S → Type 0
  HaveLines r = All HasLine r.calls

  -- a want that a device has, and what the master says to it
  short-served : (m : M) (needs : Caps) (w : Want) → IsWant needs w → IsShort w × ((served k m w).1.size ≤ 64)
  short-served m needs (Fetch addr size) is = (is.1, is.1)
  short-served m needs (Store addr size bytes mask) is = (is.1, omega arith)
  short-served m needs (Line number level) is = (tt, omega arith)

  accessed : (r : Direct M S) (m : M) (b : Bus) (o : Option S) → HaveLines r → HaveLines (access_device k d plan r m b o)
  accessed r m b None have = have
  accessed r m b (Some s) have = All-append HasLine r.calls _ have (all-one HasLine _ tt)

  united : (r : Direct M S) (m : M) (o : Option Bus) → HaveLines r → HaveLines (unit_of k d plan r m o)
  united r m None have = have
  united r m (Some b) have = accessed r m b (slice_get r.devices b.port) have

  wanted : (r : Direct M S) (p : ℕ) (s : S) (o : Option Want) → d.want s ≡ o → HaveLines r → HaveLines (serve_want k d plan r p s o)
  wanted r p s None is have = have
  wanted r p s (Some w) is have = All-append HasLine r.calls _ have (all-one HasLine _ (short-served r.master (d.needs s) w (lawful.want_is s w is)))

  deviced : (r : Direct M S) (p : ℕ) (o : Option S) → HaveLines r → HaveLines (serve_device k d plan r p o)
  deviced r p None have = have
  deviced r p (Some s) have = wanted r p s (d.want s) refl have

  nexted : (r : Direct M S) (o : Option (ℕ × ℕ)) → HaveLines r → HaveLines (serve_next k d plan r o)
  nexted r None have = have
  nexted r (Some q) have = deviced r q.0 (slice_get r.devices q.0) have

  all-served : (n : ℕ) (r : Direct M S) → HaveLines r → HaveLines (serve_all k d plan n r)
  all-served zero r have = have
  all-served (suc n) r have = all-served n (serve_one k d plan r) (nexted r (least (map (want_time k d plan) r.devices)) have)

  bounded : (r : Direct M S) → HaveLines r → HaveLines (boundary k d plan r)
  bounded r have = all-served (all_left k d plan (advance_all k d plan (mark k d plan r)).devices) (advance_all k d plan (mark k d plan r)) have

  bounded-if : (b : Bool) (r : Direct M S) → HaveLines r → HaveLines (boundary_if k d plan b r)
  bounded-if true r have = bounded r have
  bounded-if false r have = have

  listed-if : (b : Bool) (x y : Direct M S) → HaveLines x → HaveLines y → HaveLines (if b then x else y)
  listed-if true x y first second = first
  listed-if false x y first second = second

  run-listed : (n : ℕ) (r : Direct M S) → HaveLines r → HaveLines (direct_from k d plan n r)
  run-listed zero r have = bounded r have
  run-listed (suc n) r have =
      let met = met_quantum k d plan r in
      listed-if (is_some (k.stopped r.master)) (boundary k d plan r) (direct_from k d plan n (unit k d plan met)) (bounded r have)
      (run-listed n (unit k d plan met) (united met (k.issue met.master).0 (k.issue met.master).1 (bounded-if (at_quantum plan r.tick) r have)))

  pub direct-listed : (m : M) (ss : List S) → HaveLines (direct k d plan m ss)
  direct-listed m ss = run-listed plan.units (direct_start m ss) (All-nil HasLine)
